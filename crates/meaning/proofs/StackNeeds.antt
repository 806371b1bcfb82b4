-- With parentheses at most 32 deep, 68 stack words suffice.
use Rattle.std.proofs.Common.{ℕ, suc, ◌+◌, ◌*◌, ◌≤◌, max, arith}
use Rattle.syntax.specs.Trees.{Expression, first, minus, more, Term, one, times, Factor, name, number, paren, Condition, test}
use Rattle.meaning.specs.Depth.{depth_of_expression, depth_of_term, depth_of_factor, depth_of_condition}

module _ {N : Type 0} where
  -- the stack words that each piece needs
  abbrev mutual
    pub need_of_expression : Expression N → ℕ
    need_of_expression (first t) = need_of_term t
    need_of_expression (minus p t) = max (need_of_term t) 2
    need_of_expression (more e o p t) = max (need_of_expression e) (suc (need_of_term t))

    pub need_of_term : Term N → ℕ
    need_of_term (one f) = need_of_factor f
    need_of_term (times t o p f) = max (need_of_term t) (suc (need_of_factor f))

    pub need_of_factor : Factor N → ℕ
    need_of_factor (name n p) = 1
    need_of_factor (number z p) = 1
    need_of_factor (paren e) = need_of_expression e

  abbrev pub need_of_condition : Condition N → ℕ
  need_of_condition (test l r p e) = max (need_of_expression l) (suc (need_of_expression e))

  mutual
    pub bound_expression : (e : Expression N) → need_of_expression e ≤ 2 * depth_of_expression e + 3
    bound_expression (first t) = omega (arith, bound_term t)
    bound_expression (minus p t) = omega (arith, bound_term t)
    bound_expression (more e o p t) = omega (arith, bound_expression e, bound_term t)

    bound_term : (t : Term N) → need_of_term t ≤ 2 * depth_of_term t + 2
    bound_term (one f) = omega (arith, bound_factor f)
    bound_term (times t o p f) = omega (arith, bound_term t, bound_factor f)

    bound_factor : (f : Factor N) → need_of_factor f ≤ 2 * depth_of_factor f + 1
    bound_factor (name n p) = omega arith
    bound_factor (number z p) = omega arith
    bound_factor (paren e) = omega (arith, bound_expression e)

  pub condition_fits : (c : Condition N) → depth_of_condition c ≤ 32 → 0 + need_of_condition c ≤ 68
  condition_fits (test l r p e) h = omega (arith, bound_expression l, bound_expression e)
