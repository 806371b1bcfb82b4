-- What each reader of statements promises. Every factor has 32 parentheses to spare.
--   Less              a token is read
--   end_of, closed    the token behind a list of statements, and what is expected after it
--   IsCondition       tokens are those of a condition, and this is its tree
--   StatementFits, StatementsFit
--                     within the parentheses and the levels to spare, each `else` at the nearest `if`
--   Shut              no `else` comes behind a statement that could take it
--   IsStatement, AreStatements
--                     tokens are those of a statement, or of statements, with so many levels to spare below
--   IsGuarded         tokens are those of a condition and the statement behind it
--   IsCall            tokens are these, a name and the end of a call
--   AreMore           tokens are those of more statements and the token behind them
--   ReadsCondition    a condition in its parentheses
--   ReadsAssigned     the value of an assignment behind its name, with the semicolon
--   ReadsCall         `scanf` or `printf` behind its word, with these tokens before the name
--   ReadsStatement    a statement with so many levels to spare below it
--   ReadsBody         the same, in its box
--   ReadsGuarded      a condition and such a statement behind it
--   ReadsIf           an `if` behind its word, with its `else` if it has one
--   ReadsBlock        a block behind its brace
--   ReadsStatements   statements up to the token behind them, put behind those that were read before
use Rattle.std.specs.Prelude.{◌≡◌, ℕ, suc, ◌<◌, ◌≤◌, true, false, List, [], ◌∷◌, ◌++◌, length, vec_items, box_value, Result, Box, Vec, OnOk}
use Rattle.std.specs.declared.alloc.Global.{Global}
use Rattle.syntax.specs.declared.tree.Name as coded-name
use Rattle.syntax.specs.declared.tree.Expression.{Expression}
use Rattle.syntax.specs.declared.tree.Condition.{Condition}
use Rattle.syntax.specs.declared.tree.Guarded.{Guarded}
use Rattle.syntax.specs.declared.tree.Statement.{Statement}
use Rattle.syntax.specs.Trees as tree
use Rattle.syntax.specs.TreeOf.{name_of, expression_of, condition_of, statement_of, body_of, statements_of}
use Rattle.grammar.specs.Grammar as parse
use Rattle.grammar.specs.Grammar.{condition_onto, condition_parens, statement_onto, statements_onto, statement_parens, statement_depth, statements_parens, statements_depth, ElseNearest, ElsesNearest, ends_open}
use Rattle.grammar.specs.Placed.{condition_at, statement_at, statements_at}
use Rattle.grammar.specs.Kinds as kind
use Rattle.grammar.specs.Kinds.{Name, Token, Mark, Return, RightParen, RightBrace, Semicolon, Assign, mark, same}
use Rattle.grammar.specs.Automaton.{at_semicolon, Frame, braces, whole, level, guard, Symbol, token, identifier, zero_number, expression, statement, tail}
use Rattle.parser.specs.declared.reader.Reader.{Reader}
use Rattle.parser.specs.declared.refusals.Refusal.{Refusal}
use Rattle.parser.specs.Reads.{left, ahead, token_at, starts, Reads, Spells}
use Rattle.parser.specs.Readers.{tokens, Marks}

abbrev pub Less : {X : Type 0} → Reader → Result X Refusal → Reader → Type 0
Less before r after = OnOk r (length (left after) < length (left before))

abbrev pub end_of : Frame → Mark
end_of (braces d) = RightBrace
end_of (whole d) = Return

abbrev pub closed : Frame → List Symbol → List Symbol
closed (braces d) s = s
closed (whole d) s = zero_number ∷ tokens (Semicolon ∷ (RightBrace ∷ [])) s

abbrev pub IsCondition : List Token → tree.Condition Name → List Token → Type 0
IsCondition = Spells condition_onto condition_at (λ t. condition_parens t ≤ 32)

abbrev pub StatementFits : ℕ → parse.Statement → Type 0
StatementFits d b = (statement_parens b ≤ 32) × (statement_depth b ≤ suc d) × ElseNearest b

abbrev pub StatementsFit : ℕ → parse.Statements → Type 0
StatementsFit d ss = (statements_parens ss ≤ 32) × (statements_depth ss ≤ suc d) × ElsesNearest ss

abbrev pub Shut : List Token → parse.Statement → Type 0
Shut vs b = ends_open b ≡ true → starts (same kind.else) vs ≡ false

abbrev pub IsStatement : ℕ → List Token → tree.Statement Name → List Token → Type 0
IsStatement d us b vs = Spells statement_onto statement_at (λ t. StatementFits d t × Shut vs t) us b vs

abbrev pub AreStatements : ℕ → List Token → tree.Statements Name → List Token → Type 0
AreStatements d = Spells statements_onto statements_at (StatementsFit d)

pub record IsGuarded (source : List ℕ) (place d : ℕ) (us : List Token) (g : Guarded) (vs : List Token) : Type 0 where
  pub placed : g.place ≡ place
  pub behind : List Token
  pub condition : IsCondition us (condition_of source g.condition) behind
  pub body : IsStatement d behind (body_of source g) vs

abbrev pub ReadsCondition : Reader → Result Condition Refusal → Reader → Type 0
ReadsCondition before r after =
    (source : List ℕ) (s : List Symbol)
    → Reads (ahead source before) (guard 32 s) r (ahead source after) s
    (λ c. IsCondition (ahead source before) (condition_of source c) (ahead source after))

abbrev pub ReadsAssigned : Reader → Result Expression Refusal → Reader → Type 0
ReadsAssigned before r after =
    (source : List ℕ) (s : List Symbol)
    → Reads (ahead source before) (token Assign ∷ (expression 32 at_semicolon ∷ s)) r (ahead source after) s
    (λ e. (d p : ℕ) (i : Name) → IsStatement d (token_at (kind.name i) p ∷ ahead source before) (tree.assign i p (expression_of source e)) (ahead source after))

pub record IsCall (source : List ℕ) (opening : List Mark) (us : List Token) (n : coded-name.Name) (vs : List Token) : Type 0 where
  pub front : List Token
  pub behind : List Token
  pub opened : Marks opening us front
  pub named : front ≡ token_at (kind.name (name_of source n)) n.place ∷ behind
  pub closed : Marks (RightParen ∷ (Semicolon ∷ [])) behind vs

abbrev pub ReadsCall : Reader → List Mark → Result coded-name.Name Refusal → Reader → Type 0
ReadsCall before opening r after =
    (source : List ℕ) (s : List Symbol)
    → Reads (ahead source before) (tokens opening (identifier ∷ tokens (RightParen ∷ (Semicolon ∷ [])) s)) r (ahead source after) s
    (λ n. IsCall source opening (ahead source before) n (ahead source after))

abbrev pub ReadsStatement : Reader → ℕ → Result Statement Refusal → Reader → Type 0
ReadsStatement before depth r after =
    (source : List ℕ) (es : List ℕ) (x : Frame) (s : List Symbol)
    → Reads (ahead source before) (statement 32 depth es x ∷ s) r (ahead source after) (tail 32 es x ∷ s)
    (λ b. IsStatement depth (ahead source before) (statement_of source b) (ahead source after))

abbrev pub ReadsBody : Reader → ℕ → Result (Box Statement Global) Refusal → Reader → Type 0
ReadsBody before depth r after =
    (source : List ℕ) (es : List ℕ) (x : Frame) (s : List Symbol)
    → Reads (ahead source before) (statement 32 depth es x ∷ s) r (ahead source after) (tail 32 es x ∷ s)
    (λ b. IsStatement depth (ahead source before) (statement_of source (box_value b)) (ahead source after))

abbrev pub ReadsGuarded : Reader → ℕ → ℕ → Result Guarded Refusal → Reader → Type 0
ReadsGuarded before place depth r after =
    (source : List ℕ) (es : List ℕ) (x : Frame) (s : List Symbol)
    → Reads (ahead source before) (guard 32 (statement 32 depth es x ∷ s)) r (ahead source after) (tail 32 es x ∷ s)
    (λ g. IsGuarded source place depth (ahead source before) g (ahead source after))

abbrev pub ReadsIf : Reader → ℕ → ℕ → Result Statement Refusal → Reader → Type 0
ReadsIf before place depth r after =
    (source : List ℕ) (es : List ℕ) (x : Frame) (s : List Symbol)
    → Reads (ahead source before) (guard 32 (statement 32 depth (depth ∷ es) x ∷ s)) r (ahead source after) (tail 32 es x ∷ s)
    (λ b. IsStatement (suc depth) (token_at kind.if place ∷ ahead source before) (statement_of source b) (ahead source after))

abbrev pub ReadsBlock : Reader → ℕ → Result (Vec Statement Global) Refusal → Reader → Type 0
ReadsBlock before depth r after =
    (source : List ℕ) (s : List Symbol)
    → Reads (ahead source before) (statement 32 depth [] (braces depth) ∷ s) r (ahead source after) s
    (λ ss. (p : ℕ) → IsStatement (suc depth) (token_at kind.left_brace p ∷ ahead source before) (tree.block (statements_of source (vec_items ss))) (ahead source after))

-- put behind those before them
pub record AreMore (source : List ℕ) (end : Mark) (d : ℕ) (us : List Token) (read all : List Statement) (vs : List Token) : Type 0 where
  pub more : List Statement
  pub all_are : all ≡ read ++ more
  pub place : ℕ
  pub spelled : AreStatements d us (statements_of source more) (token_at (mark end) place ∷ vs)

abbrev pub ReadsStatements : {X : Type 0} → Reader → List Statement → Mark → ℕ → Result X Refusal → Reader → List Statement → Type 0
ReadsStatements before read end depth r after all =
    (source : List ℕ) (x : Frame) (s : List Symbol) → end_of x ≡ end → level x ≡ depth
    → Reads (ahead source before) (tail 32 [] x ∷ s) r (ahead source after) (closed x s)
    (λ _. AreMore source end depth (ahead source before) read all (ahead source after))
