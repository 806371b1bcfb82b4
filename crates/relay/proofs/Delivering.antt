-- What is written and what is still to be put, together, stay the same as numbers are delivered.
use Rattle.std.proofs.Common.{◌≡◌, ℕ, suc, List, [], ◌∷◌, ◌++◌, ℤ, Some, Option, Ok, Err, Result, sym, ap, ◌∙◌, append_assoc, arith}
use Rattle.tapes.specs.Meaning.{Meaning}
use Rattle.relay.specs.declared.relay.Undelivered.{Undelivered}
use Rattle.relay.specs.declared.relay.Undelivered.TheVariants.{OutOfRange, NoRoom}
use Rattle.relay.specs.Relaying.{before, puts, Delivered}

-- what will be written in all
abbrev pub whole : (ℤ → Option ℤ) → List ℤ → Meaning → List ℤ
whole narrow xs m = m.written ++ puts narrow xs m.room

pub delivered : (narrow : ℤ → Option ℤ) (m : Meaning) (x : ℤ) (r : Result ℤ Undelivered) (n : Meaning) (xs : List ℤ) → Delivered narrow m x r n → whole narrow xs n ≡ whole narrow (x ∷ xs) m
delivered narrow m x (Ok v) n xs d =
    let rest : ℕ → List ℤ = λ k. puts narrow xs k in
    let e : m.room ≡ suc n.room = omega (arith, d.1.lower) in
    ap (λ w. w ++ rest n.room) d.1.written
    ∙ append_assoc m.written (v ∷ []) (rest n.room)
    ∙ sym (ap (λ w. m.written ++ w) (ap (λ o. before o m.room rest) d.0 ∙ ap (λ k. before (Some v) k rest) e))
delivered narrow m x (Err OutOfRange) n xs d =
    let rest : ℕ → List ℤ = λ k. puts narrow xs k in
    ap (λ k. whole narrow xs k) d.1 ∙ sym (ap (λ w. m.written ++ w) (ap (λ o. before o m.room rest) d.0))
delivered narrow m x (Err (NoRoom v p)) n xs d =
    let rest : ℕ → List ℤ = λ k. puts narrow xs k in
    ap (λ k. whole narrow xs k) d.3
    ∙ ap (λ k. m.written ++ rest k) d.1
    ∙ sym (ap (λ w. m.written ++ w) (ap (λ o. before o m.room rest) d.0 ∙ ap (λ k. before (Some v) k rest) d.1))
