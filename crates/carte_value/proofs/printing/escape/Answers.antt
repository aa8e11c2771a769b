use Rattle.std.proofs.Common.{◌∙◌, ap, sym, ◌++◌, string_bytes}
use Rattle.carte_value.proofs.Escapes.{escaped_char}
use Rattle.carte_value.proofs.printing.escape.Goals as goal

pub returns-in_ok-push : goal.returns-in_ok-push
returns-in_ok-push c =
    let plain = escaped_char c.args.c (record {
      backslash = c.if-c-eq92.false;
      quote = c.if-c-eq34.false;
      line_feed = c.if-c-eq10.false;
      carriage_return = c.if-c-eq13.false;
      tab = c.if-c-eq9.false;
    }) in
    c.in_ok-push.ensures.bytes ∙ ap (λ xs. string_bytes c.args.out.now ++ xs) (sym plain)
