-- What `begins` says, and how the library's `strip_prefix` says it.
use Rattle.std.proofs.Common.{◌≡◌, ℕ, true, eqb, ◌&&◌, List, [], ◌∷◌, ◌++◌, length, take, drop, refl, ap}
use lib.Pointwise.{pointwise}
use Rattle.std.proofs.lemmas.Bool.{eqb-true, and_parts, false≢true}
use Rattle.lexer.specs.Bytes.{begins}

pub begins_front : (p s : List ℕ) → begins p s ≡ true → s ≡ p ++ drop (length p) s
begins_front [] s e = refl
begins_front (x ∷ p) [] e = absurd (false≢true e)
begins_front (x ∷ p) (y ∷ s) e =
    let both = and_parts (eqb y x) (begins p s) e in
    (λ i. eqb-true y x both.0 i ∷ begins_front p s both.1 i)

pub begins_pointwise : (p s : List ℕ) → begins p s ≡ pointwise eqb (take (length p) s) p
begins_pointwise [] s = refl
begins_pointwise (x ∷ p) [] = refl
begins_pointwise (x ∷ p) (y ∷ s) = ap (λ t. eqb y x && t) (begins_pointwise p s)
