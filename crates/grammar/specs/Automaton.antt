-- The proof's tool: an automaton whose stack holds what is still expected. Contracts of the readers cite it, and what
-- the parser promises does not. Each symbol takes at least one token.
--   End, Frame     what ends an expression; what ends a list of statements
--   Symbol         a thing that is expected
--   entries        the tokens that a symbol can begin with, and what is expected after each
--   step, feed     one token, and many
--   start          what is expected of a whole program
--   judge          the tokens are just what is expected, end too soon, or are refused
use Rattle.std.specs.Prelude.{cond, List, [], ◌∷◌, ℕ, zero, suc}
use Rattle.grammar.specs.Kinds.{Kind, Mark, Token, Additive, Multiplicative, Relation, same, Head, Int, Main, Scanf, Printf, If, Else, While, Return, Format, LeftParen, RightParen, LeftBrace, RightBrace, Comma, Semicolon, Ampersand, Assign, Equal, Unequal, Less, Greater, AtMost, AtLeast, Plus, Minus, Times, Divide, Modulo}
use Rattle.grammar.specs.Kinds as kind

-- what ends an expression
pub data End : Type 0 where
  at_semicolon : End
  at_paren : End
  at_relation : End

-- what ends a list of statements, each with d levels below it
pub data Frame : Type 0 where
  braces : ℕ → Frame
  whole : ℕ → Frame

-- p: parentheses to spare; d: levels below the statement; es: those below the `else` branches that may come
pub data Symbol : Type 0 where
  token : Mark → Symbol
  identifier : Symbol
  zero_number : Symbol
  expression : ℕ → End → Symbol
  factor : ℕ → End → Symbol
  products : ℕ → End → Symbol
  sums : ℕ → End → Symbol
  end : End → Symbol
  statement : ℕ → ℕ → List ℕ → Frame → Symbol
  tail : ℕ → List ℕ → Frame → Symbol
  names : Symbol
  body : ℕ → ℕ → Symbol

pub data Step : Type 0 where
  next : List Symbol → Step
  bad : Step
  deep : Step

abbrev pub Entry : Type 0
Entry = Kind × Step

abbrev pub pick : List Entry → Kind → Step
pick [] k = bad
pick (e ∷ es) k = cond (same e.0 k) e.1 (pick es k)

abbrev pub level : Frame → ℕ
level (braces d) = d
level (whole d) = d

abbrev pub end_entries : End → List Symbol → List Entry
end_entries at_semicolon s = (kind.semicolon, next s) ∷ []
end_entries at_paren s = (kind.right_paren, next s) ∷ []
end_entries at_relation s =
    (kind.relation Equal, next s) ∷ ((kind.relation Unequal, next s) ∷ ((kind.relation Less, next s) ∷ ((kind.relation Greater, next s) ∷ ((kind.relation AtMost, next s) ∷ ((kind.relation AtLeast, next s) ∷ [])))))

abbrev pub inside : ℕ → End → List Symbol → Step
inside zero x s = deep
inside (suc p) x s = next (expression p at_paren ∷ (products (suc p) x ∷ s))

abbrev pub factor_entries : ℕ → End → List Symbol → List Entry
factor_entries p x s = (kind.name [], next (products p x ∷ s)) ∷ ((kind.number 0, next (products p x ∷ s)) ∷ ((kind.number 1, next (products p x ∷ s)) ∷ ((kind.left_paren, inside p x s) ∷ [])))

abbrev pub expression_entries : ℕ → End → List Symbol → List Entry
expression_entries p x s = (kind.additive Plus, next (factor p x ∷ s)) ∷ ((kind.additive Minus, next (factor p x ∷ s)) ∷ factor_entries p x s)

abbrev pub sum_entries : ℕ → End → List Symbol → List Entry
sum_entries p x s = (kind.additive Plus, next (factor p x ∷ s)) ∷ ((kind.additive Minus, next (factor p x ∷ s)) ∷ end_entries x s)

abbrev pub product_entries : ℕ → End → List Symbol → List Entry
product_entries p x s =
    (kind.multiplicative Times, next (factor p x ∷ s)) ∷ ((kind.multiplicative Divide, next (factor p x ∷ s)) ∷ ((kind.multiplicative Modulo, next (factor p x ∷ s)) ∷ sum_entries p x s))

-- a condition, then s
abbrev pub guard : ℕ → List Symbol → List Symbol
guard p s = token LeftParen ∷ (expression p at_relation ∷ (expression p at_paren ∷ s))

abbrev pub ifs : ℕ → ℕ → List ℕ → Frame → List Symbol → Step
ifs p zero es x s = deep
ifs p (suc d) es x s = next (guard p (statement p d (d ∷ es) x ∷ s))

abbrev pub whiles : ℕ → ℕ → List ℕ → Frame → List Symbol → Step
whiles p zero es x s = deep
whiles p (suc d) es x s = next (guard p (statement p d es x ∷ s))

abbrev pub blocks : ℕ → ℕ → List ℕ → Frame → List Symbol → Step
blocks p zero es x s = deep
blocks p (suc d) es x s = next (statement p d [] (braces d) ∷ (tail p es x ∷ s))

abbrev pub statement_entries : ℕ → ℕ → List ℕ → Frame → List Symbol → List Entry
statement_entries p d es x s =
    (kind.name [], next (token Assign ∷ (expression p at_semicolon ∷ (tail p es x ∷ s))))
    ∷ ((kind.scanf, next (token LeftParen ∷ (token Format ∷ (token Comma ∷ (token Ampersand ∷ (identifier ∷ (token RightParen ∷ (token Semicolon ∷ (tail p es x ∷ s)))))))))
    ∷ ((kind.printf, next (token LeftParen ∷ (token Format ∷ (token Comma ∷ (identifier ∷ (token RightParen ∷ (token Semicolon ∷ (tail p es x ∷ s))))))))
    ∷ ((kind.if, ifs p d es x s) ∷ ((kind.while, whiles p d es x s) ∷ ((kind.left_brace, blocks p d es x s) ∷ [])))))

abbrev pub elses : ℕ → List ℕ → Frame → List Symbol → Step
elses p [] x s = bad
elses p (e ∷ es) x s = next (statement p e es x ∷ s)

abbrev pub closes : Frame → List Symbol → Entry
closes (braces d) s = (kind.right_brace, next s)
closes (whole d) s = (kind.return, next (zero_number ∷ (token Semicolon ∷ (token RightBrace ∷ s))))

abbrev pub tail_entries : ℕ → List ℕ → Frame → List Symbol → List Entry
tail_entries p es x s = (kind.else, elses p es x s) ∷ (closes x s ∷ statement_entries p (level x) [] x s)

-- the tokens that the symbol can begin with, one for each class, and what is expected after each
abbrev pub entries : Symbol → List Symbol → List Entry
entries (token m) s = (kind.mark m, next s) ∷ []
entries identifier s = (kind.name [], next s) ∷ []
entries zero_number s = (kind.number 0, next s) ∷ []
entries (expression p x) s = expression_entries p x s
entries (factor p x) s = factor_entries p x s
entries (products p x) s = product_entries p x s
entries (sums p x) s = sum_entries p x s
entries (end x) s = end_entries x s
entries (statement p d es x) s = statement_entries p d es x s
entries (tail p es x) s = tail_entries p es x s
entries names s = (kind.comma, next (identifier ∷ (names ∷ s))) ∷ ((kind.semicolon, next s) ∷ [])
entries (body p d) s = (kind.int, next (identifier ∷ (names ∷ (tail p [] (whole d) ∷ s)))) ∷ tail_entries p [] (whole d) s

abbrev pub step : List Symbol → Kind → Step
step [] k = bad
step (y ∷ s) k = pick (entries y s) k

-- what is expected after the tokens, or a refusal's number and place
pub data Result : Type 0 where
  running : List Symbol → Result
  refused : ℕ → ℕ → Result

abbrev pub go : (List Symbol → Result) → ℕ → Step → Result
go f p (next s) = f s
go f p bad = refused 4 p
go f p deep = refused 5 p

abbrev pub feed : List Token → List Symbol → Result
feed [] s = running s
feed (t ∷ ts) s = go (feed ts) t.place (step s t.kind)

-- a whole program with d levels below its statements
abbrev pub start : ℕ → ℕ → List Symbol
start d p = token Head ∷ (token Int ∷ (token Main ∷ (token LeftParen ∷ (token RightParen ∷ (token LeftBrace ∷ (body p d ∷ []))))))

pub data Verdict : Type 0 where
  good : Verdict
  short : Verdict
  wrong : ℕ → ℕ → Verdict

abbrev pub judged : Result → Verdict
judged (running []) = good
judged (running (y ∷ s)) = short
judged (refused c n) = wrong c n

-- the tokens are just what is expected, end too soon, or are refused
abbrev pub judge : List Token → List Symbol → Verdict
judge ts s = judged (feed ts s)
