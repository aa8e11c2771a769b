-- Meanings that compute, each with the value that Excel or the language's own rule gives.
use Rattle.std.specs.Prelude.{◌≡◌, ℕ, List, pos, negsuc, [], ◌∷◌, ◌^◌, ◌-◌, Some, None, Ok, Err, refl, if◌then◌else◌}
use Rattle.carte_name.specs.declared.kind.Kind.TheVariants.{Rules, Sheet}
use Rattle.carte_value.specs.declared.value.Bad.TheVariants as bad
use Rattle.carte_value.specs.declared.value.Value.{Value}
use Rattle.carte_value.specs.declared.value.Value.TheVariants.{Empty, Number, Text, Bad}
use Rattle.carte_value.specs.Truths.{Truth}
use Rattle.carte_name.specs.Names.{name_eq}
use Rattle.carte_tree.specs.declared.expr.Op.TheVariants as op
use Rattle.carte_tree.specs.declared.expr.Func.TheVariants as f
use Rattle.carte_tree.specs.declared.expr.Level.TheVariants as level
use Rattle.carte_tree.specs.Tree.{Tree, number, ref, neg, chain, call, step, no_step, Args, arg, no_arg, one}
use Rattle.carte_tree.specs.Applied.{applied, negated}
use Rattle.carte_tree.specs.Functions.{called}
use Rattle.carte_tree.specs.Meaning.{eval, fetched}
use Rattle.carte_tree.specs.Found.{name_in, names_in}

-- 1. operators

add : applied op.Add (Number (pos 2) ∷ Empty ∷ []) ≡ Number (pos 2)
add = refl

add_outside : applied op.Add (Number (pos (2 ^ 63 - 1)) ∷ Number (pos 1) ∷ []) ≡ Bad bad.Num
add_outside = refl

add_text : applied op.Add (Text (49 ∷ []) ∷ Number (pos 1) ∷ []) ≡ Bad bad.Value
add_text = refl

-- the first bad value comes before a wrong kind that stands before it
add_bad : applied op.Add (Text (49 ∷ []) ∷ Bad bad.Ref ∷ []) ≡ Bad bad.Ref
add_bad = refl

sub_bad : applied op.Sub (Bad bad.Div0 ∷ Bad bad.Ref ∷ []) ≡ Bad bad.Div0
sub_bad = refl

mul_outside : applied op.Mul (Number (negsuc (2 ^ 63 - 1)) ∷ Number (negsuc 0) ∷ []) ≡ Bad bad.Num
mul_outside = refl

div : applied op.Div (Number (negsuc 6) ∷ Number (pos 2) ∷ []) ≡ Number (negsuc 2)
div = refl

div_zero : applied op.Div (Number (pos 1) ∷ Empty ∷ []) ≡ Bad bad.Div0
div_zero = refl

div_least : applied op.Div (Number (negsuc (2 ^ 63 - 1)) ∷ Number (negsuc 0) ∷ []) ≡ Bad bad.Num
div_least = refl

neg_least : negated (Number (negsuc (2 ^ 63 - 1)) ∷ []) ≡ Bad bad.Num
neg_least = refl

join : applied op.Join (Text (97 ∷ []) ∷ Empty ∷ []) ≡ Text (97 ∷ [])
join = refl

less_text : applied op.Lt (Number (pos 9) ∷ Text [] ∷ []) ≡ Number (pos 1)
less_text = refl

empty_zero : applied op.Eq (Empty ∷ Number (pos 0) ∷ []) ≡ Number (pos 1)
empty_zero = refl

empty_text : applied op.Eq (Empty ∷ Text [] ∷ []) ≡ Number (pos 1)
empty_text = refl

empty_less : applied op.Lt (Empty ∷ Text (97 ∷ []) ∷ []) ≡ Number (pos 1)
empty_less = refl

empty_same : applied op.Ge (Empty ∷ Empty ∷ []) ≡ Number (pos 1)
empty_same = refl

negative_less : applied op.Gt (Empty ∷ Number (negsuc 0) ∷ []) ≡ Number (pos 1)
negative_less = refl

-- 2. functions

sum : called f.Sum (Number (pos 1) ∷ Text (49 ∷ []) ∷ Empty ∷ Number (pos 2) ∷ []) ≡ Number (pos 3)
sum = refl

-- only the whole sum has to fit
sum_exact : called f.Sum (Number (pos (2 ^ 63 - 1)) ∷ Number (pos 1) ∷ Number (negsuc 0) ∷ []) ≡ Number (pos (2 ^ 63 - 1))
sum_exact = refl

sum_bad : called f.Sum (Text [] ∷ Bad bad.Len ∷ Bad bad.Num ∷ []) ≡ Bad bad.Len
sum_bad = refl

min_none : called f.Min (Text (97 ∷ []) ∷ Empty ∷ []) ≡ Number (pos 0)
min_none = refl

min : called f.Min (Number (pos 3) ∷ Empty ∷ Number (pos 2) ∷ []) ≡ Number (pos 2)
min = refl

max : called f.Max (Number (negsuc 4) ∷ Text [] ∷ Number (negsuc 1) ∷ []) ≡ Number (negsuc 1)
max = refl

count : called f.Count (Bad bad.Num ∷ Number (pos 7) ∷ Text [] ∷ Empty ∷ Number (pos 0) ∷ []) ≡ Number (pos 2)
count = refl

and_text : called f.And (Number (pos 0) ∷ Text [] ∷ []) ≡ Bad bad.Value
and_text = refl

and_empty : called f.And (Number (pos 1) ∷ Empty ∷ []) ≡ Number (pos 0)
and_empty = refl

or : called f.Or (Empty ∷ Number (negsuc 0) ∷ []) ≡ Number (pos 1)
or = refl

not_empty : called f.Not (Empty ∷ []) ≡ Number (pos 1)
not_empty = refl

len : called f.Len (Text (195 ∷ 164 ∷ []) ∷ []) ≡ Number (pos 2)
len = refl

upper : called f.Upper (Text (97 ∷ 195 ∷ 164 ∷ 122 ∷ []) ∷ []) ≡ Text (65 ∷ 195 ∷ 164 ∷ 90 ∷ [])
upper = refl

lines_none : called f.Lines (Empty ∷ []) ≡ Number (pos 0)
lines_none = refl

lines_ended : called f.Lines (Text (97 ∷ 10 ∷ 98 ∷ 10 ∷ []) ∷ []) ≡ Number (pos 2)
lines_ended = refl

lines_empty : called f.Lines (Text (10 ∷ 10 ∷ []) ∷ []) ≡ Number (pos 2)
lines_empty = refl

line : called f.Line (Text (97 ∷ 10 ∷ 98 ∷ []) ∷ Number (pos 2) ∷ []) ≡ Text (98 ∷ [])
line = refl

line_absent : called f.Line (Text (97 ∷ 10 ∷ []) ∷ Number (pos 2) ∷ []) ≡ Bad bad.Value
line_absent = refl

line_zero : called f.Line (Text (97 ∷ []) ∷ Empty ∷ []) ≡ Bad bad.Value
line_zero = refl

pick_left : called f.Pick (Number (negsuc 0) ∷ Text [] ∷ Bad bad.Ref ∷ []) ≡ Text []
pick_left = refl

pick_text : called f.Pick (Text [] ∷ Bad bad.Ref ∷ Number (pos 1) ∷ []) ≡ Bad bad.Value
pick_text = refl

-- 3. names in values

rule_name : name_in Rules (Text (97 ∷ 49 ∷ [])) ≡ Ok (97 ∷ 49 ∷ [])
rule_name = refl

cell_name : name_in Sheet (Text (97 ∷ 49 ∷ [])) ≡ Ok (65 ∷ 49 ∷ [])
cell_name = refl

other_name : name_in Rules (Text (65 ∷ 49 ∷ [])) ≡ Err (Bad bad.Ref)
other_name = refl

no_lines : names_in Sheet Empty ≡ Ok []
no_lines = refl

two_names : names_in Sheet (Text (97 ∷ 49 ∷ 10 ∷ 66 ∷ 50 ∷ 10 ∷ [])) ≡ Ok ((65 ∷ 49 ∷ []) ∷ (66 ∷ 50 ∷ []) ∷ [])
two_names = refl

one_no_name : names_in Rules (Text (97 ∷ 10 ∷ 49 ∷ [])) ≡ Err (Bad bad.Ref)
one_no_name = refl

-- 4. whole formulas

abbrev a : List ℕ
a = 97 ∷ []

abbrev b : List ℕ
b = 98 ∷ []

abbrev c : List ℕ
c = 99 ∷ []

-- `a` and `b` have these values, and nothing else has one
abbrev with_a_b : Value → Value → Truth
with_a_b v w k = if name_eq k a then Some v else (if name_eq k b then Some w else None)

abbrev only_a : Value → Truth
only_a v k = if name_eq k a then Some v else None

abbrev args_1 : Tree → Args
args_1 x = arg (one x) no_arg

abbrev args_2 : Tree → Tree → Args
args_2 x y = arg (one x) (args_1 y)

abbrev args_3 : Tree → Tree → Tree → Args
args_3 x y z = arg (one x) (args_2 y z)

abbrev if_a : Tree
if_a = call f.If (args_3 (ref a) (number (pos 7)) (ref b))

-- a condition that holds: b, which has no value, isn't looked up
if_true : eval Rules (only_a (Number (pos 1))) if_a ≡ Ok (Number (pos 7))
if_true = refl

if_true_names : fetched Rules (only_a (Number (pos 1))) if_a ≡ a ∷ []
if_true_names = refl

if_false : eval Rules (only_a Empty) if_a ≡ Err b
if_false = refl

if_false_names : fetched Rules (only_a Empty) if_a ≡ a ∷ b ∷ []
if_false_names = refl

if_text : eval Rules (only_a (Text [])) if_a ≡ Ok (Bad bad.Value)
if_text = refl

if_bad : eval Rules (only_a (Bad bad.Num)) if_a ≡ Ok (Bad bad.Num)
if_bad = refl

if_bad_names : fetched Rules (only_a (Bad bad.Num)) if_a ≡ a ∷ []
if_bad_names = refl

-- the branch that is taken may be bad
if_bad_branch : eval Rules (with_a_b Empty (Bad bad.Ref)) if_a ≡ Ok (Bad bad.Ref)
if_bad_branch = refl

abbrev pick_a : Tree
pick_a = call f.Pick (args_3 (ref a) (number (pos 7)) (ref b))

pick_names : fetched Rules (only_a (Number (pos 1))) pick_a ≡ a ∷ b ∷ []
pick_names = refl

pick_stuck : eval Rules (only_a (Number (pos 1))) pick_a ≡ Err b
pick_stuck = refl

pick_first : eval Rules (with_a_b (Number (pos 1)) (Bad bad.Div0)) pick_a ≡ Ok (Number (pos 7))
pick_first = refl

-- 7 - 2 - 1 from the left, and 8 / 2 / 2
chain_left : eval Rules (only_a Empty) (chain level.Sum (number (pos 7)) (step op.Sub (number (pos 2)) (step op.Sub (number (pos 1)) no_step))) ≡ Ok (Number (pos 4))
chain_left = refl

quotients_left : eval Rules (only_a Empty) (chain level.Product (number (pos 8)) (step op.Div (number (pos 2)) (step op.Div (number (pos 2)) no_step))) ≡ Ok (Number (pos 2))
quotients_left = refl

-- 5 > 4 > 3 compares 1 with 3
compared_left : eval Rules (only_a Empty) (chain level.Compare (number (pos 5)) (step op.Gt (number (pos 4)) (step op.Gt (number (pos 3)) no_step))) ≡ Ok (Number (pos 0))
compared_left = refl

negative_ref : eval Rules (only_a (Number (pos 3))) (neg (ref a)) ≡ Ok (Number (negsuc 2))
negative_ref = refl

-- operands in the order of the text, each name once
operand_names : fetched Rules (with_a_b Empty Empty) (chain level.Sum (ref b) (step op.Add (ref a) (step op.Add (ref b) no_step))) ≡ b ∷ a ∷ []
operand_names = refl

-- nothing is looked up behind a name without a value
stuck_names : fetched Rules (only_a Empty) (chain level.Sum (ref a) (step op.Add (ref b) (step op.Add (ref c) no_step))) ≡ a ∷ b ∷ []
stuck_names = refl

-- a bad operand doesn't keep the others from being looked up
bad_names : fetched Rules (with_a_b (Bad bad.Num) Empty) (chain level.Sum (ref a) (step op.Add (ref b) no_step)) ≡ a ∷ b ∷ []
bad_names = refl

arguments_joined : eval Rules (with_a_b (Text (120 ∷ [])) (Text (121 ∷ []))) (call f.Concat (args_3 (ref b) (ref a) (ref b))) ≡ Ok (Text (121 ∷ 120 ∷ 121 ∷ []))
arguments_joined = refl

sum_twice : eval Rules (only_a (Number (pos 2))) (call f.Sum (args_2 (ref a) (ref a))) ≡ Ok (Number (pos 4))
sum_twice = refl

sum_twice_names : fetched Rules (only_a (Number (pos 2))) (call f.Sum (args_2 (ref a) (ref a))) ≡ a ∷ []
sum_twice_names = refl

-- SUM(a, IF(b, 1, c))
nested_names : fetched Rules (with_a_b (Number (pos 2)) Empty) (call f.Sum (args_2 (ref a) (call f.If (args_3 (ref b) (number (pos 1)) (ref c))))) ≡ a ∷ b ∷ c ∷ []
nested_names = refl

indirect : eval Rules (with_a_b (Text b) (Number (pos 5))) (call f.Indirect (args_1 (ref a))) ≡ Ok (Number (pos 5))
indirect = refl

indirect_names : fetched Rules (with_a_b (Text b) (Number (pos 5))) (call f.Indirect (args_1 (ref a))) ≡ a ∷ b ∷ []
indirect_names = refl

-- a name of the other kind
indirect_other : eval Sheet (with_a_b (Text b) (Number (pos 5))) (call f.Indirect (args_1 (ref a))) ≡ Ok (Bad bad.Ref)
indirect_other = refl

indirect_number : eval Rules (only_a (Number (pos 5))) (call f.Indirect (args_1 (ref a))) ≡ Ok (Bad bad.Ref)
indirect_number = refl

indirect_bad : eval Rules (only_a (Bad bad.Len)) (call f.Indirect (args_1 (ref a))) ≡ Ok (Bad bad.Len)
indirect_bad = refl

-- the lines b, a, b
gather : eval Rules (with_a_b (Text (98 ∷ 10 ∷ 97 ∷ 10 ∷ 98 ∷ [])) (Text (120 ∷ []))) (call f.Gather (args_1 (ref a))) ≡ Ok (Text (120 ∷ 98 ∷ 10 ∷ 97 ∷ 10 ∷ 98 ∷ 120 ∷ []))
gather = refl

gather_names : fetched Rules (with_a_b (Text (98 ∷ 10 ∷ 97 ∷ 10 ∷ 98 ∷ [])) (Text (120 ∷ []))) (call f.Gather (args_1 (ref a))) ≡ a ∷ b ∷ []
gather_names = refl

-- a line that is no name: nothing is looked up
gather_wrong : eval Rules (only_a (Text (98 ∷ 10 ∷ 10 ∷ 99 ∷ []))) (call f.Gather (args_1 (ref a))) ≡ Ok (Bad bad.Ref)
gather_wrong = refl

gather_wrong_names : fetched Rules (only_a (Text (98 ∷ 10 ∷ 10 ∷ 99 ∷ []))) (call f.Gather (args_1 (ref a))) ≡ a ∷ []
gather_wrong_names = refl

gather_nothing : eval Rules (only_a Empty) (call f.Gather (args_1 (ref a))) ≡ Ok (Text [])
gather_nothing = refl

-- of what is gathered the first bad value is the result, after all look-ups
gather_bad : eval Rules (with_a_b (Text (98 ∷ 10 ∷ 97 ∷ [])) (Bad bad.Num)) (call f.Gather (args_1 (ref a))) ≡ Ok (Bad bad.Num)
gather_bad = refl
