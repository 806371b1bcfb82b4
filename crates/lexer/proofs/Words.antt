-- Words told by their bytes, and the word at the front of a text.
use Rattle.std.proofs.Common.{◌≡◌, ℕ, suc, ◌+◌, Bool, true, false, ◌&&◌, ◌||◌, leb, List, [], ◌∷◌, length, get_or, take, drop, Some, sym, refl, ap, ◌∙◌, arith, rules, drop-cons}
use Rattle.std.specs.List.{prefix_len}
use Rattle.std.specs.Char.{is_ascii_alphanumeric}
use Rattle.std.proofs.lemmas.List.{drop_all}
use Rattle.syntax.specs.Tokens.{Kind}
use Rattle.lexer.specs.Bytes.{digit, word_byte}
use Rattle.lexer.specs.Scan.{word_kind, word_at, limited_kind, limited}
use Rattle.lexer.proofs.Runs.{run_same}

-- from place i on w has the bytes of v
abbrev pub Spells : ℕ → List ℕ → List ℕ → Type 0
Spells i w [] = Unit {0}
Spells i w (b ∷ v) = (get_or w i 0 ≡ b) × Spells (suc i) w v

spelled : (i : ℕ) (w v : List ℕ) → length w ≡ i + length v → Spells i w v → drop i w ≡ v
spelled i w [] n is = drop_all i w (omega arith)
spelled i w (b ∷ v) n is = drop-cons w i 0 (omega arith) ∙ (λ j. is.0 j ∷ spelled (suc i) w v (omega arith) is.1 j)

pub reserved_is : (w v : List ℕ) → length w ≡ length v → Spells 0 w v → word_kind v ≡ word_kind w
reserved_is w v n is = sym (ap word_kind (spelled 0 w v (omega arith) is))

alphanumeric : (b : ℕ) → is_ascii_alphanumeric b ≡ word_byte b
alphanumeric b = turned (digit b) (leb 65 b && leb b 90) (leb 97 b && leb b 122)
  where
    turned : (d u l : Bool) → ((d || u) || l) ≡ ((u || l) || d)
    turned true true l = refl
    turned true false true = refl
    turned true false false = refl
    turned false true l = refl
    turned false false true = refl
    turned false false false = refl

word_limited : (w : List ℕ) → limited_kind (word_kind w) ≡ word_kind w
word_limited w = search rules

pub word_is : (text : List ℕ) (n : ℕ) (k : Kind) → n ≡ prefix_len is_ascii_alphanumeric text → k ≡ word_kind (take n text) → Some (k, n) ≡ limited (word_at text)
word_is text n k run kind =
    let is = run ∙ run_same is_ascii_alphanumeric word_byte text alphanumeric in
    ap (λ j. Some (j, n)) (kind ∙ sym (word_limited (take n text))) ∙ ap (λ m. Some (limited_kind (word_kind (take m text)), m)) is
