use Rattle.std.proofs.Common.{◌≡◌, sym, ap, ◌∙◌, string_bytes}
use Rattle.std.specs.List.{flat_map}
use Rattle.std.proofs.lemmas.Str.{IsUtf8-string_bytes}
use Rattle.carte_value.specs.Printed.{escaped}
use Rattle.carte_value.proofs.Quotes.{text_read, text_refused}
use Rattle.carte_value.proofs.reading.read_text.Goals as goal

pub returns-in-Ok : goal.returns-in-Ok
returns-in-Ok c =
    let body : c.in-Some.body.now ≡ flat_map escaped c.in-Some-2.bytes.items = rw c.in-Some-2.is at c.in_ok-bytes.ensures in
    let same : string_bytes c.in-Ok.text ≡ c.in-Some-2.bytes.items = ap (λ v. v.items) c.in-Ok.ensures.ok in
    text_read c.args.text.now c.in-Some.body.now (string_bytes c.in-Ok.text) c.made.result (sym c.as_bytes.ensures.value ∙ c.in-Some.ensures) (body ∙ ap (flat_map escaped) (sym same)) (IsUtf8-string_bytes c.in-Ok.text) c.made.ensures

pub returns : goal.returns
returns c =
    let body : c.in-Some.body.now ≡ flat_map escaped c.in-Some-2.bytes.items = rw c.in-Some-2.is at c.in_ok-bytes.ensures in
    text_refused c.args.text.now c.in-Some.body.now c.in-Some-2.bytes.items (sym c.as_bytes.ensures.value ∙ c.in-Some.ensures) body (λ utf8. let no = c.in-Err.ensures.succeeds utf8 in cc)
