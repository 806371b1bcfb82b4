-- The head, part by part.
use Rattle.std.proofs.Common.{◌≡◌, ℕ, ◌+◌, Bool, true, false, cond, eqb, List, take, drop, Some, None, codes, sym, ap, ◌∙◌}
use lib.Pointwise.{pointwise}
use Rattle.std.specs.List.{prefix_len}
use Rattle.syntax.specs.declared.token.Mark.TheVariants.{Head}
use Rattle.syntax.specs.Tokens.{mark}
use Rattle.lexer.specs.Bytes.{gap, begins}
use Rattle.lexer.specs.Scan.{head_end, head_at, limited}
use Rattle.lexer.proofs.Begins.{begins_pointwise}

-- behind `#include` stand n spaces and tabs, and then the bytes of inner
module _ (text behind inner : List ℕ) (n : ℕ) (include : pointwise eqb (take 8 text) (codes "#include") ≡ true) (behind_is : behind ≡ drop 8 text) (run : n ≡ prefix_len gap behind) (inner_is : inner ≡ drop n behind) where
  parts : (t : Bool) → pointwise eqb (take 9 inner) (codes "<stdio.h>") ≡ t → head_at text ≡ cond t (Some (mark Head, 17 + n)) None
  parts t file =
      ap (λ b. cond b (head_end (prefix_len gap (drop 8 text)) (drop 8 text)) None) (begins_pointwise (codes "#include") text ∙ include)
      ∙ ap (λ l. head_end (prefix_len gap l) l) (sym behind_is)
      ∙ ap (λ m. head_end m behind) (sym run)
      ∙ ap (λ l. cond (begins (codes "<stdio.h>") l) (Some (mark Head, 17 + n)) None) (sym inner_is)
      ∙ ap (λ b. cond b (Some (mark Head, 17 + n)) None) (begins_pointwise (codes "<stdio.h>") inner ∙ file)

  pub head_none : pointwise eqb (take 9 inner) (codes "<stdio.h>") ≡ false → None ≡ limited (head_at text)
  head_none file = ap limited (sym (parts false file))

  pub head_some : pointwise eqb (take 9 inner) (codes "<stdio.h>") ≡ true → (m : ℕ) → m ≡ 17 + n → Some (mark Head, m) ≡ limited (head_at text)
  head_some file m is = ap (λ k. Some (mark Head, k)) is ∙ ap limited (sym (parts true file))
