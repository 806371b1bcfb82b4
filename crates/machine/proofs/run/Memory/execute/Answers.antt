use Rattle.std.proofs.Common.{◌≡◌, not, eqb, ◌+ℤ◌, ◌-ℤ◌, ◌*ℤ◌, sym, Ok, ap, ◌∙◌, w32, w64, SFits, to_z, of_z, rules}
use Rattle.std.proofs.lemmas.Int.{to_z-of_z}
use lib.Signed.{lt_z, le_z}
use Rattle.code.specs.Division.{quotient, remainder}
use Rattle.code.specs.declared.Instruction.TheVariants.{Literal}
use Rattle.code.specs.Machine.{by_sign}
use Rattle.machine.specs.Closures.{divided}
use Rattle.machine.specs.View.{truth}
use Rattle.machine.proofs.Comparing.{less_is, equal_is, unequal_is, greater_is, at_most_is, at_least_is}
use Rattle.machine.proofs.Doing.{executed}
use Rattle.machine.proofs.Operating.{multiplied, did_divide}
use Rattle.machine.proofs.run.Memory.execute.Goals as goal

pub operate-requires-in-Multiply : goal.operate-requires-in-Multiply
operate-requires-in-Multiply g c = record { callable = λ x y hx hy v r. (multiplied x y hx hy).0 }

pub returns-in-Literal : goal.returns-in-Literal
returns-in-Literal g c =
    let fits : SFits w32 c.in-Literal.z = search rules in
    let e : c.args.instruction ≡ Literal (to_z w32 (of_z w32 c.in-Literal.z)) = c.in-Literal.is ∙ ap Literal (sym (to_z-of_z w32 _ fits)) in
    rw e (executed _ _ _ c.go_on.ensures.same c.go_on.ensures.went (c.literal.ensures _))

pub returns-in-Read : goal.returns-in-Read
returns-in-Read g c = rw c.in-Read.is (executed _ _ _ c.go_on-in-Read.ensures.same c.go_on-in-Read.ensures.went (c.read.ensures _))

pub returns-in-Write : goal.returns-in-Write
returns-in-Write g c = rw c.in-Write.is (executed _ _ _ c.go_on-in-Write.ensures.same c.go_on-in-Write.ensures.went (c.write.ensures _))

pub returns-in-Load : goal.returns-in-Load
returns-in-Load g c = rw c.in-Load.is (executed _ _ _ c.go_on-in-Load.ensures.same c.go_on-in-Load.ensures.went (c.load.ensures _))

pub returns-in-Store : goal.returns-in-Store
returns-in-Store g c = rw c.in-Store.is (executed _ _ _ c.go_on-in-Store.ensures.same c.go_on-in-Store.ensures.went (c.store.ensures _))

pub returns-in-Add : goal.returns-in-Add
returns-in-Add g c = rw c.in-Add.is (executed _ _ _ c.go_on-in-Add.ensures.same c.go_on-in-Add.ensures.went (c.operate.ensures _ (λ x y. Ok (x +ℤ y)) (λ x y z hx hy p. search rules)))

pub returns-in-Subtract : goal.returns-in-Subtract
returns-in-Subtract g c = rw c.in-Subtract.is (executed _ _ _ c.go_on-in-Subtract.ensures.same c.go_on-in-Subtract.ensures.went (c.operate-in-Subtract.ensures _ (λ x y. Ok (x -ℤ y)) (λ x y z hx hy p. search rules)))

pub returns-in-Multiply : goal.returns-in-Multiply
returns-in-Multiply g c = rw c.in-Multiply.is (executed _ _ _ c.go_on-in-Multiply.ensures.same c.go_on-in-Multiply.ensures.went (c.operate-in-Multiply.ensures _ (λ x y. Ok (x *ℤ y)) (λ x y z hx hy p. let e : z ≡ Ok (to_z w64 (of_z w64 ((to_z w64 (of_z w64 x)) *ℤ (to_z w64 (of_z w64 y))))) = search rules in e ∙ ap Ok (multiplied x y hx hy).1)))

pub returns-in-Divide : goal.returns-in-Divide
returns-in-Divide g c = rw c.in-Divide.is (executed _ _ _ c.go_on-in-Divide.ensures.same c.go_on-in-Divide.ensures.went (did_divide _ _ g.U.Arithmetic.narrowed quotient c.args.core.now.counter c.args.self.now (c.operate-in-Divide.ensures _ (divided quotient) (λ x y z hx hy p. p))))

pub returns-in-Modulo : goal.returns-in-Modulo
returns-in-Modulo g c = rw c.in-Modulo.is (executed _ _ _ c.go_on-in-Modulo.ensures.same c.go_on-in-Modulo.ensures.went (did_divide _ _ g.U.Arithmetic.narrowed remainder c.args.core.now.counter c.args.self.now (c.operate-in-Modulo.ensures _ (divided remainder) (λ x y z hx hy p. p))))

pub returns-in-Less : goal.returns-in-Less
returns-in-Less g c = rw c.in-Less.is (executed _ _ _ c.go_on-in-Less.ensures.same c.go_on-in-Less.ensures.went (c.compare.ensures _ (λ x y. by_sign 1 0 0 (x -ℤ y)) (λ x y b hx hy p. let e : b ≡ lt_z (to_z w64 (of_z w64 x)) (to_z w64 (of_z w64 y)) = search rules in ap truth e ∙ less_is x y hx hy)))

pub returns-in-Equal : goal.returns-in-Equal
returns-in-Equal g c = rw c.in-Equal.is (executed _ _ _ c.go_on-in-Equal.ensures.same c.go_on-in-Equal.ensures.went (c.compare-in-Equal.ensures _ (λ x y. by_sign 0 1 0 (x -ℤ y)) (λ x y b hx hy p. let e : b ≡ eqb (of_z w64 x) (of_z w64 y) = search rules in ap truth e ∙ equal_is x y hx hy)))

pub returns-in-Unequal : goal.returns-in-Unequal
returns-in-Unequal g c = rw c.in-Unequal.is (executed _ _ _ c.go_on-in-Unequal.ensures.same c.go_on-in-Unequal.ensures.went (c.compare-in-Unequal.ensures _ (λ x y. by_sign 1 0 1 (x -ℤ y)) (λ x y b hx hy p. let e : b ≡ not (eqb (of_z w64 x) (of_z w64 y)) = search rules in ap truth e ∙ unequal_is x y hx hy)))

pub returns-in-Greater : goal.returns-in-Greater
returns-in-Greater g c = rw c.in-Greater.is (executed _ _ _ c.go_on-in-Greater.ensures.same c.go_on-in-Greater.ensures.went (c.compare-in-Greater.ensures _ (λ x y. by_sign 0 0 1 (x -ℤ y)) (λ x y b hx hy p. let e : b ≡ lt_z (to_z w64 (of_z w64 y)) (to_z w64 (of_z w64 x)) = search rules in ap truth e ∙ greater_is x y hx hy)))

pub returns-in-AtMost : goal.returns-in-AtMost
returns-in-AtMost g c = rw c.in-AtMost.is (executed _ _ _ c.go_on-in-AtMost.ensures.same c.go_on-in-AtMost.ensures.went (c.compare-in-AtMost.ensures _ (λ x y. by_sign 1 1 0 (x -ℤ y)) (λ x y b hx hy p. let e : b ≡ le_z (to_z w64 (of_z w64 x)) (to_z w64 (of_z w64 y)) = search rules in ap truth e ∙ at_most_is x y hx hy)))

pub returns-in-AtLeast : goal.returns-in-AtLeast
returns-in-AtLeast g c = rw c.in-AtLeast.is (executed _ _ _ c.go_on-in-AtLeast.ensures.same c.go_on-in-AtLeast.ensures.went (c.compare-in-AtLeast.ensures _ (λ x y. by_sign 0 1 1 (x -ℤ y)) (λ x y b hx hy p. let e : b ≡ le_z (to_z w64 (of_z w64 y)) (to_z w64 (of_z w64 x)) = search rules in ap truth e ∙ at_least_is x y hx hy)))
