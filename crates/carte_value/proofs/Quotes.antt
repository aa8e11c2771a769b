-- Escaped bytes are read in one way at most.
use Rattle.std.proofs.Common.{◌≡◌, ℕ, ◌<◌, ◌≤◌, cond, eqb, List, [], ◌∷◌, ◌++◌, length, get_or, refl, ap, sym, ◌∙◌, subst, inl, inr, ◌⊎◌, arith, append_assoc, Option, Some, None, Result, Ok, Err, IfOk, IsUtf8}
use Rattle.std.specs.List.{flat_map}
use Rattle.std.proofs.lemmas.Bool.{cases_eq}
use Rattle.std.proofs.lemmas.List.{append_cancel_right}
use Rattle.carte_name.specs.declared.NoMemory.{NoMemory}
use Rattle.carte_value.specs.Printed.{escaped, quoted}
use Rattle.carte_value.specs.Texts.{IsText, IsTextKept}
use Rattle.carte_value.specs.Reading.{IsPlain, IsTextRead}
use Rattle.carte_value.proofs.Escapes as escapes

pub plain_ahead : (bs : List ℕ) → 1 ≤ length bs → IsPlain (get_or bs 0 0) → (1 ≡ length (escaped (get_or bs 0 0))) × (rest : List ℕ) × (bs ≡ escaped (get_or bs 0 0) ++ rest)
plain_ahead [] some plain = absurd (omega arith)
plain_ahead (x ∷ xs) some plain = (ap length (sym plain), xs, ap (λ e. e ++ xs) (sym plain))

-- what the second byte of an escape means
meant : ℕ → ℕ
meant e = cond (eqb e 92) 92 (cond (eqb e 34) 34 (cond (eqb e 110) 10 (cond (eqb e 114) 13 9)))

-- a byte is escaped by two bytes, or stands for itself
IsEscape : ℕ → Type 0
IsEscape b = (e : ℕ) × (escaped b ≡ 92 ∷ e ∷ []) × (meant e ≡ b)

escape_cases : (b : ℕ) → (escapes.IsPlain b) ⊎ (IsEscape b)
unfolding IsEscape meant
escape_cases b = elim (cases_eq b 92) [
  | inl same ↦ rw same (inr (92, refl, refl))
  | inr backslash ↦ elim (cases_eq b 34) [
    | inl same ↦ rw same (inr (34, refl, refl))
    | inr quote ↦ elim (cases_eq b 10) [
      | inl same ↦ rw same (inr (110, refl, refl))
      | inr line_feed ↦ elim (cases_eq b 13) [
        | inl same ↦ rw same (inr (114, refl, refl))
        | inr carriage_return ↦ elim (cases_eq b 9) [
          | inl same ↦ rw same (inr (116, refl, refl))
          | inr tab ↦ inl (record { backslash = backslash; quote = quote; line_feed = line_feed; carriage_return = carriage_return; tab = tab })
        ]
      ]
    ]
  ]
]

-- what is escaped goes on in one way
escape_same : (b c : ℕ) (r s : List ℕ) → escaped b ++ r ≡ escaped c ++ s → (b ≡ c) × (r ≡ s)
unfolding IsEscape
escape_same b c r s same = elim (escape_cases b) [
  | inl plain ↦ elim (escape_cases c) [
    | inl plain' ↦ (let e : b ∷ r ≡ c ∷ s = rw (escapes.escaped_plain b plain, escapes.escaped_plain c plain') at same in (cc, cc))
    | inr (l, is, means) ↦ (let e : b ∷ r ≡ 92 ∷ l ∷ s = rw (escapes.escaped_plain b plain, is) at same in absurd (plain.backslash cc))
  ]
  | inr (l, is, means) ↦ elim (escape_cases c) [
    | inl plain' ↦ (let e : 92 ∷ l ∷ r ≡ c ∷ s = rw (is, escapes.escaped_plain c plain') at same in absurd (plain'.backslash cc))
    | inr (l', is', means') ↦ (let e : 92 ∷ l ∷ r ≡ 92 ∷ l' ∷ s = rw (is, is') at same in let letter : l ≡ l' = cc in (sym means ∙ ap meant letter ∙ means', cc))
  ]
]

-- an escaped byte is some bytes
escape_some : (b : ℕ) (r : List ℕ) → ¬ (escaped b ++ r ≡ [])
unfolding IsEscape
escape_some b r none = elim (escape_cases b) [
  | inl plain ↦ (let e : b ∷ r ≡ [] = rw (escapes.escaped_plain b plain) at none in cc)
  | inr (l, is, means) ↦ (let e : 92 ∷ l ∷ r ≡ [] = rw is at none in cc)
]

escaped_same : (t u : List ℕ) → flat_map escaped t ≡ flat_map escaped u → t ≡ u
escaped_same [] [] same = refl
escaped_same [] (c ∷ u) same = absurd (escape_some c (flat_map escaped u) (sym same))
escaped_same (b ∷ t) [] same = absurd (escape_some b (flat_map escaped t) same)
escaped_same (b ∷ t) (c ∷ u) same =
    let parts : (b ≡ c) × (flat_map escaped t ≡ flat_map escaped u) = escape_same b c (flat_map escaped t) (flat_map escaped u) same in
    let rest : t ≡ u = escaped_same t u parts.1 in
    let first : b ≡ c = parts.0 in
    cc

pub quoted_same : (body t : List ℕ) → 34 ∷ (body ++ 34 ∷ []) ≡ quoted t → body ≡ flat_map escaped t
quoted_same body t same = append_cancel_right body (flat_map escaped t) (34 ∷ []) cc

-- where no escaped byte begins what is left, the whole is no escaped bytes
pub unescaped_none : (out rest : List ℕ) → 0 < length rest → ((b : ℕ) (r : List ℕ) → ¬ (rest ≡ escaped b ++ r)) → (bytes : List ℕ) → ¬ (flat_map escaped out ++ rest ≡ flat_map escaped bytes)
unescaped_none [] rest some none [] same = absurd (omega (arith, ap length same))
unescaped_none [] rest some none (b ∷ bytes) same = none b (flat_map escaped bytes) same
unescaped_none (o ∷ out) rest some none [] same = escape_some o (flat_map escaped out ++ rest) (sym (append_assoc (escaped o) (flat_map escaped out) rest) ∙ same)
unescaped_none (o ∷ out) rest some none (b ∷ bytes) same =
    unescaped_none out rest some none bytes (escape_same o b (flat_map escaped out ++ rest) (flat_map escaped bytes) (sym (append_assoc (escaped o) (flat_map escaped out) rest) ∙ same)).1

-- the text between the quotes, where it is short enough
pub text_read : (text body bytes : List ℕ) (made : Result (Option (List ℕ)) NoMemory) → text ≡ 34 ∷ (body ++ 34 ∷ []) → body ≡ flat_map escaped bytes → IsUtf8 bytes → IfOk made (IsTextKept bytes) → IsTextRead text made
text_read text body bytes (Err e) between escaped_is utf8 kept = tt
text_read text body bytes (Ok (Some t)) between escaped_is utf8 kept =
    rw kept.0 ((utf8, kept.1), between ∙ ap (λ b. 34 ∷ (b ++ 34 ∷ [])) escaped_is)
text_read text body bytes (Ok None) between escaped_is utf8 many = λ t given is.
    let same : bytes ≡ t = escaped_same bytes t (sym escaped_is ∙ quoted_same body t (sym between ∙ is)) in
    absurd (omega (arith, ap length same, given.1))

-- bytes that aren't UTF-8 are no text
pub text_refused : (text body bytes : List ℕ) → text ≡ 34 ∷ (body ++ 34 ∷ []) → body ≡ flat_map escaped bytes → ¬ (IsUtf8 bytes) → (t : List ℕ) → IsText t → ¬ (text ≡ quoted t)
text_refused text body bytes between escaped_is other t (utf8, few) is =
    other (subst IsUtf8 (sym (escaped_same bytes t (sym escaped_is ∙ quoted_same body t (sym between ∙ is)))) utf8)

pub texts_same : (t u : List ℕ) → quoted t ≡ quoted u → t ≡ u
texts_same t u same = escaped_same t u (quoted_same (flat_map escaped t) u same)
