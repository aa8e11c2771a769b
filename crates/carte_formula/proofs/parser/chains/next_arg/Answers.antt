use Rattle.std.proofs.Common.{None, Some, sym, ◌∙◌, ap, if◌then◌else◌}
use Rattle.carte_tree.specs.Code.{arg_tree}
use Rattle.carte_formula.specs.Machine.{wants}
use Rattle.carte_formula.specs.Frames.{frames_of, with_arg}
use Rattle.carte_formula.proofs.Commas.{arg_room}
use Rattle.carte_formula.proofs.parser.chains.next_arg.Goals as goal

pub returns-then-not-has_room : goal.returns-then-not-has_room
returns-then-not-has_room c =
    arg_room (arg_tree c.args.arg) c.args.func c.args.count c.args.parser.now.stack.frames.items c.requires
    ∙ ap (λ b. if b then Some (wants (with_arg (arg_tree c.args.arg) (frames_of c.args.parser.now.stack.frames.items))) else None) (sym c.has_room.ensures ∙ c.if-not-has_room.true)

pub returns : goal.returns
returns c =
    arg_room (arg_tree c.args.arg) c.args.func c.args.count c.args.parser.now.stack.frames.items c.requires
    ∙ ap (λ b. if b then Some (wants (with_arg (arg_tree c.args.arg) (frames_of c.args.parser.now.stack.frames.items))) else None) (sym c.has_room.ensures ∙ c.if-not-has_room.false)
    ∙ ap (λ S. Some (wants S)) (sym c.in_ok-add_arg.ensures)
