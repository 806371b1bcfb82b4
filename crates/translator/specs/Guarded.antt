-- A body behind a condition.
--   guarded_code   a condition, a jump to this target, and a body behind it, which stand at an address
--   Guards         an emitter puts these, the jump to 0, and this is the jump's index
use Rattle.std.specs.Prelude.{◌≡◌, ℕ, suc, ◌+◌, ◌∷◌, ◌++◌, length}
use Rattle.syntax.specs.declared.tree.Guarded.{Guarded}
use Rattle.code.specs.declared.Instruction.TheVariants.{JumpIfZero}
use Rattle.names.specs.declared.cells.Scope.{Scope}
use Rattle.translator.specs.declared.emitter.Emitter.{Emitter}
use Rattle.translator.specs.Linear.{Code, past}
use Rattle.translator.specs.Emitted.{condition_code, body_code}
use Rattle.translator.specs.Emitters.{Emits}

abbrev pub guarded_code : Scope → Guarded → ℕ → ℕ → Code
guarded_code s g target a = condition_code s g.condition ++ ((JumpIfZero target, g.place) ∷ body_code s g (suc (past a (condition_code s g.condition))))

pub record Guards (before : Emitter) (g : Guarded) (jump : ℕ) (after : Emitter) : Type 0 where
  pub emits : Emits before (guarded_code before.scope g 0 (suc (length before.code.items))) after
  pub stands : jump ≡ length before.code.items + length (condition_code before.scope g.condition)
