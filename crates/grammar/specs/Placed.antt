-- The syntax tree of a parse tree and its tokens: the parse tree says which token each place is that of.
--   at, past                     the place of the first token; the tokens behind it
--   factor_at, term_at, expression_at, condition_at, statement_at, statements_at
--                                the syntax tree of the parse tree whose tokens come first, and the tokens behind it
--   products_at, sums_at         the same for what follows a first factor or term
--   declaration_at, program_at   declared names with their places; a whole program
use Rattle.std.specs.Prelude.{List, [], ◌∷◌, ℕ}
use Rattle.grammar.specs.Kinds.{Name, Token, Plus, Minus}
use Rattle.grammar.specs.Grammar as parse
use Rattle.syntax.specs.Trees.{Expression, first, minus, more, Term, one, times, Factor, name, number, paren, Condition, test, Statement, assign, scan, print, when, either, while, block, Statements, none, then, Program}

abbrev pub at : List Token → ℕ
at [] = 0
at (t ∷ ts) = t.place

abbrev pub past : List Token → List Token
past [] = []
past (t ∷ ts) = ts

abbrev pub behind_sign : parse.Sign → List Token → List Token
behind_sign parse.bare ts = ts
behind_sign (parse.signed a) ts = past ts

-- the first term with its sign, whose place is p
abbrev pub signed : parse.Sign → ℕ → Term Name → Expression Name
signed parse.bare p t = first t
signed (parse.signed Plus) p t = first t
signed (parse.signed Minus) p t = minus p t

abbrev mutual
  pub expression_at : parse.Expression → List Token → Expression Name × List Token
  expression_at (parse.expression g t ss) ts =
      let a = term_at t (behind_sign g ts) in
      sums_at ss (signed g (at ts) a.0) a.1

  pub sums_at : parse.Sums → Expression Name → List Token → Expression Name × List Token
  sums_at parse.alone e ts = (e, ts)
  sums_at (parse.and o t ss) e ts =
      let a = term_at t (past ts) in
      sums_at ss (more e o (at ts) a.0) a.1

  pub term_at : parse.Term → List Token → Term Name × List Token
  term_at (parse.term f ps) ts =
      let a = factor_at f ts in
      products_at ps (one a.0) a.1

  pub products_at : parse.Products → Term Name → List Token → Term Name × List Token
  products_at parse.single t ts = (t, ts)
  products_at (parse.by o f ps) t ts =
      let a = factor_at f (past ts) in
      products_at ps (times t o (at ts) a.0) a.1

  pub factor_at : parse.Factor → List Token → Factor Name × List Token
  factor_at (parse.variable i) ts = (name i (at ts), past ts)
  factor_at (parse.literal v) ts = (number v (at ts), past ts)
  factor_at (parse.paren e) ts = let a = expression_at e (past ts) in (paren a.0, past a.1)

abbrev pub condition_at : parse.Condition → List Token → Condition Name × List Token
condition_at (parse.test l o r) ts =
    let a = expression_at l (past ts) in
    let b = expression_at r (past a.1) in
    (test a.0 o (at a.1) b.0, past b.1)

abbrev mutual
  pub statement_at : parse.Statement → List Token → Statement Name × List Token
  statement_at (parse.assign i e) ts = let a = expression_at e (past (past ts)) in (assign i (at ts) a.0, past a.1)
  statement_at (parse.scan i) ts = let us = past (past (past (past (past ts)))) in (scan i (at us), past (past (past us)))
  statement_at (parse.print i) ts = let us = past (past (past (past ts))) in (print i (at us), past (past (past us)))
  statement_at (parse.when c b) ts =
      let a = condition_at c (past ts) in
      let d = statement_at b a.1 in
      (when (at ts) a.0 d.0, d.1)
  statement_at (parse.either c b e) ts =
      let a = condition_at c (past ts) in
      let d = statement_at b a.1 in
      let f = statement_at e (past d.1) in
      (either (at ts) a.0 d.0 (at d.1) f.0, f.1)
  statement_at (parse.loop c b) ts =
      let a = condition_at c (past ts) in
      let d = statement_at b a.1 in
      (while (at ts) a.0 d.0, d.1)
  statement_at (parse.block b ss) ts =
      let a = statement_at b (past ts) in
      let d = statements_at ss a.1 in
      (block (then a.0 d.0), past d.1)

  pub statements_at : parse.Statements → List Token → Statements Name × List Token
  statements_at parse.none ts = (none, ts)
  statements_at (parse.then b ss) ts =
      let a = statement_at b ts in
      let d = statements_at ss a.1 in
      (then a.0 d.0, d.1)

abbrev pub names_at : parse.Names → List Token → List (Name × ℕ) × List Token
names_at parse.nomore ts = ([], past ts)
names_at (parse.also i ns) ts = let a = names_at ns (past (past ts)) in ((i, at (past ts)) ∷ a.0, a.1)

abbrev pub declaration_at : parse.Declaration → List Token → List (Name × ℕ) × List Token
declaration_at parse.nothing ts = ([], ts)
declaration_at (parse.variables i ns) ts = let a = names_at ns (past (past ts)) in ((i, at (past ts)) ∷ a.0, a.1)

abbrev pub program_at : parse.ProgramTree → List Token → Program Name
program_at (parse.program d ss) ts =
    let a = declaration_at d (past (past (past (past (past (past ts)))))) in
    record { declared = a.0; statements = (statements_at ss a.1).0 }
