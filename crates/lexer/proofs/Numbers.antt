-- A number by its run of digits, which may begin with 0 only alone.
use Rattle.std.proofs.Common.{◌≡◌, ℕ, zero, suc, ◌<◌, ◌≤◌, min, true, false, cond, eqb, leb, ◌⊎◌, List, [], ◌∷◌, length, get_or, take, Some, None, codes, ◌≢◌, sym, refl, ap, ◌∙◌, inl, inr, arith, length-take}
use Rattle.std.specs.List.{prefix_len}
use Rattle.std.proofs.lemmas.List.{get_or-take}
use Rattle.std.proofs.lemmas.Bool.{cases_Bool, and_parts, and_from, leb-true, le-leb, eqb-true, eq-eqb, false≢true}
use Rattle.syntax.specs.Tokens.{number}
use Rattle.lexer.specs.Bytes.{digit, begins}
use Rattle.lexer.specs.Scan.{value_of, zero_first, number_at, limited}

zero_begins : (n : ℕ) (text : List ℕ) → 0 < length (take n text) → get_or (take n text) 0 0 ≡ 48 → begins (codes "0") text ≡ true
zero_begins zero [] some is = absurd (omega arith)
zero_begins (suc n) [] some is = absurd (omega arith)
zero_begins n (b ∷ bs) some is = and_from (eqb b 48) true (eq-eqb b 48 (sym (get_or-take n (b ∷ bs) 0 0 (omega (arith, length-take n (b ∷ bs)))) ∙ is)) refl

begins_zero : (n : ℕ) (text : List ℕ) → 0 < n → begins (codes "0") text ≡ true → get_or (take n text) 0 0 ≡ 48
begins_zero n [] some e = absurd (false≢true e)
begins_zero n (b ∷ bs) some e = get_or-take n (b ∷ bs) 0 0 some ∙ eqb-true b 48 (and_parts (eqb b 48) true e).0

module _ (text : List ℕ) (n : ℕ) (run : n ≡ prefix_len digit text) where
  pub zero_first_none : 2 ≤ length (take n text) → get_or (take n text) 0 0 ≡ 48 → None ≡ limited (number_at text)
  zero_first_none long is =
      let two : zero_first text ≡ true = and_from (leb 2 (prefix_len digit text)) (begins (codes "0") text) (le-leb 2 (prefix_len digit text) (omega (arith, run, length-take n text))) (zero_begins n text (omega arith) is) in
      sym (ap (λ z. limited (cond z None (Some (number (value_of (take (prefix_len digit text) text)), prefix_len digit text)))) two)

  pub number_some : (v : ℕ) → v ≡ min (value_of (take n text)) 1073741824 → (2 ≤ n → get_or (take n text) 0 0 ≢ 48) → Some (number v, n) ≡ limited (number_at text)
  number_some v v-is apart =
      ap (λ u. Some (number u, n)) v-is ∙ ap (λ m. Some (number (min (value_of (take m text)) 1073741824), m)) run
      ∙ sym (ap (λ z. limited (cond z None (Some (number (value_of (take (prefix_len digit text) text)), prefix_len digit text)))) (one (cases_Bool (zero_first text))))
    where
      one : (zero_first text ≡ true) ⊎ (zero_first text ≡ false) → zero_first text ≡ false
      one (inr e) = e
      one (inl e) =
          let parts = and_parts (leb 2 (prefix_len digit text)) (begins (codes "0") text) e in
          let long : 2 ≤ n = omega (arith, run, leb-true 2 (prefix_len digit text) parts.0) in
          absurd (apart long (begins_zero n text (omega arith) parts.1))
