-- Runs of bytes of one sort.
use Rattle.std.proofs.Common.{◌≡◌, ℕ, ◌+◌, ◌<◌, Bool, true, false, cond, List, [], ◌∷◌, ◌++◌, length, take, drop, refl, ap, ◌∙◌, one-add, arith}
use Rattle.std.specs.List.{prefix_len, AllByRecursion}
use Rattle.std.proofs.lemmas.List.Folds.{length-prefix_len}
use Rattle.std.proofs.Common.{Iter, Bor}
use denote.Param.Members.{Mut}
use Rattle.std.specs.declared.iter.TakeWhile.{TakeWhile}
use Rattle.std.specs.Fn.{CalledAt}
use Rattle.std.specs.Iterator.{Drains}
use Rattle.std.specs.Iterator.Adapters.{take_while_source, take_while_callee, take_while_done, take_while_steps}
use Rattle.std.specs.Slice.Iter.{iter_rest}
use Rattle.std.proofs.lemmas.Fn.{fronts}
use Rattle.std.proofs.lemmas.Iterator.{YieldsList-from_slice}
use Rattle.std.proofs.lemmas.Iterator.Consumers.{count_from_yields_List}
use Rattle.std.proofs.lemmas.Iterator.Search.{YieldsList-from_take_while}
use Rattle.lexer.specs.Tokens.{Stops}

run_all_step : (p : ℕ → Bool) (b : ℕ) (bs : List ℕ) (n : ℕ) (t : Bool) → p b ≡ t → AllByRecursion (λ b. p b ≡ true) (take n bs) → AllByRecursion (λ b. p b ≡ true) (take (cond t (1 + n) 0) (b ∷ bs))
run_all_step p b bs n true e h = rw one-add (e, h)
run_all_step p b bs n false e h = tt

-- every byte of a run is of the sort
pub run_all : (p : ℕ → Bool) (bs : List ℕ) → AllByRecursion (λ b. p b ≡ true) (take (prefix_len p bs) bs)
run_all p [] = tt
run_all p (b ∷ bs) = run_all_step p b bs (prefix_len p bs) (p b) refl (run_all p bs)

run_stops_step : (p : ℕ → Bool) (b : ℕ) (bs : List ℕ) (n : ℕ) (t : Bool) → p b ≡ t → Stops p (drop n bs) → Stops p (drop (cond t (1 + n) 0) (b ∷ bs))
run_stops_step p b bs n true e h = rw one-add h
run_stops_step p b bs n false e h = e

-- a run is full
pub run_stops : (p : ℕ → Bool) (bs : List ℕ) → Stops p (drop (prefix_len p bs) bs)
run_stops p [] = tt
run_stops p (b ∷ bs) = run_stops_step p b bs (prefix_len p bs) (p b) refl (run_stops p bs)

pub run_some : (p : ℕ → Bool) (b : ℕ) (bs : List ℕ) → p b ≡ true → 0 < prefix_len p (b ∷ bs)
run_some p b bs e = let is : prefix_len p (b ∷ bs) ≡ 1 + prefix_len p bs = ap (λ t. cond t (1 + prefix_len p bs) 0) e in omega (arith, is)

run_none : (p : ℕ → Bool) (bs : List ℕ) → Stops p bs → prefix_len p bs ≡ 0
run_none p [] h = refl
run_none p (b ∷ bs) h = ap (λ t. cond t (1 + prefix_len p bs) 0) h

-- bytes of the sort before none of it are the run
pub run_is : (p : ℕ → Bool) (w rest : List ℕ) → AllByRecursion (λ b. p b ≡ true) w → Stops p rest → prefix_len p (w ++ rest) ≡ length w
run_is p [] rest all stops = run_none p rest stops
run_is p (b ∷ w) rest all stops =
    ap (λ t. cond t (1 + prefix_len p (w ++ rest)) 0) all.0 ∙ ap (λ n. 1 + n) (run_is p w rest all.1 stops) ∙ one-add (length w)

-- two tests that agree on each byte
pub run_same : (p q : ℕ → Bool) (bs : List ℕ) → ((b : ℕ) → p b ≡ q b) → prefix_len p bs ≡ prefix_len q bs
run_same p q [] same = refl
run_same p q (b ∷ bs) same = (λ i. cond (same b i) (1 + run_same p q bs same i) 0)

-- what `take_while` and `count` over a text's bytes give, from their clauses
module _ {F : Type 0} (g : Mut F (Bor (Bor ℕ) × Unit {0}) Bool) (test : ℕ → Bool) (text : List ℕ) (s : TakeWhile (Iter ℕ) F) (f : F) where
  pub run_counted : (r : ℕ) → iter_rest (take_while_source s) ≡ text → take_while_callee s ≡ f → take_while_done s ≡ false → ((x : Bor ℕ) (b : Bool) (q : F) → CalledAt g f x b q → (q ≡ f) × (b ≡ test x.now)) → ((xs : List (Bor ℕ)) × Drains (take_while_steps fronts g) s xs × (r ≡ length xs)) → r ≡ prefix_len test text
  run_counted r is callee begun tests drained = count_from_yields_List s r drained (YieldsList-from_take_while g test (YieldsList-from_slice text is) callee begun tests) ∙ length-prefix_len test text
