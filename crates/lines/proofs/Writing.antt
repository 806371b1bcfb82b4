-- A number's line by its parts.
use Rattle.std.proofs.Common.{◌≡◌, ℕ, ◌-◌, ◌≤◌, List, [], ◌∷◌, ◌++◌, length, take, drop, replicate, ℤ, sym, ap, ◌∙◌, arith, length-append}
use lib.ListN.{length-replicate}
use Rattle.std.specs.Fmt.{signed_decimal}
use Rattle.std.proofs.lemmas.List.{take-append-drop}
use Rattle.lines.specs.Lines.{line_of}

-- a line that ends so is the number's
pub whole_line : (z : ℤ) (at : ℕ) (line : List ℕ) → length line ≡ 12 → take at line ≡ replicate at 32 → drop at line ≡ signed_decimal z ++ 10 ∷ [] → at ≤ 11 → line ≡ line_of z
whole_line z at line long blank tail high =
    let j : line ≡ replicate at 32 ++ (signed_decimal z ++ 10 ∷ []) = sym (take-append-drop at line) ∙ ap (λ t. t ++ drop at line) blank ∙ ap (λ t. replicate at 32 ++ t) tail in
    let k = simp (length-append, length-replicate) at (ap length j) in
    let e : at ≡ 11 - length (signed_decimal z) = omega arith in
    j ∙ ap (λ a. replicate a 32 ++ (signed_decimal z ++ 10 ∷ [])) e
