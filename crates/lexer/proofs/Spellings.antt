-- The first spelling of a list that a text begins with, where no shorter one stands before a longer one.
use Rattle.std.proofs.Common.{◌≡◌, ℕ, ◌<◌, ◌≤◌, Bool, true, false, cond, ◌&&◌, leb, List, [], ◌∷◌, length, Some, None, Option, sym, refl, ap, ◌∙◌, inl, inr, arith}
use Rattle.std.proofs.lemmas.Bool.{leb-true, and_parts, true≢false}
use Rattle.syntax.specs.Tokens.{Kind}
use Rattle.lexer.specs.Bytes.{begins}
use Rattle.lexer.specs.Scan.{Spelling, first_of}
use Rattle.lexer.specs.Tokens.{Listed}

abbrev pub no_longer : ℕ → List Spelling → Bool
no_longer n [] = true
no_longer n (s ∷ ss) = leb (length s.0) n && no_longer n ss

-- none is empty, and none is longer than one before it
abbrev pub descending : List Spelling → Bool
descending [] = true
descending (s ∷ ss) = leb 1 (length s.0) && (no_longer (length s.0) ss && descending ss)

no_longer_lem : (n : ℕ) (ss : List Spelling) (s : Spelling) → no_longer n ss ≡ true → Listed s ss → length s.0 ≤ n
no_longer_lem n [] s d l = absurd l
no_longer_lem n (t ∷ ss) s d (inl e) = omega (arith, leb-true (length t.0) n (and_parts (leb (length t.0) n) (no_longer n ss) d).0, ap (λ u. length u.0) e)
no_longer_lem n (t ∷ ss) s d (inr l) = no_longer_lem n ss s (and_parts (leb (length t.0) n) (no_longer n ss) d).1 l

-- k and n are the kind and the length of a spelling in the list, and the text begins with it and with none that is longer
pub record First (ss : List Spelling) (bs : List ℕ) (k : Kind) (n : ℕ) : Type 0 where
  pub bytes : List ℕ
  pub listed : Listed (bytes, k) ss
  pub long : length bytes ≡ n
  pub some : 0 < n
  pub front : begins bytes bs ≡ true
  pub longest : (s : Spelling) → Listed s ss → begins s.0 bs ≡ true → length s.0 ≤ n

abbrev pub FirstIf : List Spelling → List ℕ → Option (Kind × ℕ) → Type 0
FirstIf ss bs None = Unit {0}
FirstIf ss bs (Some x) = First ss bs x.0 x.1

later : (s : Spelling) (ss : List Spelling) (bs : List ℕ) (o : Option (Kind × ℕ)) → begins s.0 bs ≡ false → FirstIf ss bs o → FirstIf (s ∷ ss) bs o
later s ss bs None apart h = tt
later s ss bs (Some x) apart h = record { bytes = h.bytes; listed = inr h.listed; long = h.long; some = h.some; front = h.front; longest = longest }
  where
    longest : (t : Spelling) → Listed t (s ∷ ss) → begins t.0 bs ≡ true → length t.0 ≤ x.1
    longest t (inl e) b = absurd (true≢false (sym b ∙ ap (λ u. begins u.0 bs) e ∙ apart))
    longest t (inr l) b = h.longest t l b

here : (s : Spelling) (ss : List Spelling) (bs : List ℕ) → descending (s ∷ ss) ≡ true → begins s.0 bs ≡ true → First (s ∷ ss) bs s.1 (length s.0)
here s ss bs d b =
    let some = and_parts (leb 1 (length s.0)) (no_longer (length s.0) ss && descending ss) d in
    record { bytes = s.0; listed = inl refl; long = refl; some = omega (arith, leb-true 1 (length s.0) some.0); front = b; longest = longest (and_parts (no_longer (length s.0) ss) (descending ss) some.1).0 }
  where
    longest : no_longer (length s.0) ss ≡ true → (t : Spelling) → Listed t (s ∷ ss) → begins t.0 bs ≡ true → length t.0 ≤ length s.0
    longest n t (inl e) _ = omega (arith, ap (λ u. length u.0) e)
    longest n t (inr l) _ = no_longer_lem (length s.0) ss t n l

pub first_sound : (ss : List Spelling) (bs : List ℕ) → descending ss ≡ true → FirstIf ss bs (first_of ss bs)
first_sound [] bs d = tt
first_sound (s ∷ ss) bs d = at (begins s.0 bs) refl (first_sound ss bs (and_parts (no_longer (length s.0) ss) (descending ss) (and_parts (leb 1 (length s.0)) (no_longer (length s.0) ss && descending ss) d).1).1)
  where
    at : (t : Bool) → begins s.0 bs ≡ t → FirstIf ss bs (first_of ss bs) → FirstIf (s ∷ ss) bs (cond t (Some (s.1, length s.0)) (first_of ss bs))
    at true b h = here s ss bs d b
    at false b h = later s ss bs (first_of ss bs) b h
