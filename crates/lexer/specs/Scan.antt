-- The token that starts at the front of a text.
--   Spelling       bytes, and the kind of token that they spell
--   reserved       the reserved words
--   symbols        the tokens that are no words, numbers or heads, longest first
--   spelled_by     the kind of a word, by a list of spellings; a name if it is not among them
--   word_kind      a reserved word, or else a name
--   value_of       the number that digits write
--   zero_first     two digits or more, of which the first is 0
--   word_at        a word at the front, and its length
--   number_at      a number at the front, and its length
--   head_at        a head at the front, and its length; head_end, what is left of it behind `#include`
--   first_of       the first spelling of a list that the text begins with
--   symbol_at      a symbol at the front, and its length
--   scanned        the token at the front, and its length; or that none starts there
--   limited_kind   a kind with a number cut at 1,073,741,824, one more than the greatest
--   limited        the same of what is found
--   seen           what the code found there, a name with its bytes
use Rattle.std.specs.Prelude.{ℕ, ◌+◌, ◌-◌, ◌*◌, min, Bool, cond, ◌&&◌, List, [], ◌∷◌, length, take, drop, Some, None, codes, fold, Option, ◌==◌, nat_le}
use Rattle.std.specs.List.{prefix_len}
use Rattle.std.specs.Str.{bytes_eq}
use Rattle.syntax.specs.declared.token.Mark.TheVariants as marks
use Rattle.syntax.specs.declared.token.Relation.TheVariants as relations
use Rattle.syntax.specs.declared.token.Additive.TheVariants as additives
use Rattle.syntax.specs.declared.token.Multiplicative.TheVariants as multiplicatives
use Rattle.syntax.specs.Tokens.{Kind, mark, name, number, relation, additive, multiplicative, kind_of}
use Rattle.lexer.specs.declared.scan.Found.{Found}
use Rattle.lexer.specs.Bytes.{digit, letter, word_byte, gap, begins}

abbrev pub Spelling : Type 0
Spelling = List ℕ × Kind

abbrev pub reserved : List Spelling
reserved =
    (codes "int", mark marks.Int)
    ∷ (codes "main", mark marks.Main)
    ∷ (codes "scanf", mark marks.Scanf)
    ∷ (codes "printf", mark marks.Printf)
    ∷ (codes "if", mark marks.If)
    ∷ (codes "else", mark marks.Else)
    ∷ (codes "while", mark marks.While)
    ∷ (codes "return", mark marks.Return)
    ∷ []

abbrev pub symbols : List Spelling
symbols =
    (codes "\"%d\"", mark marks.Format)
    ∷ (codes "==", relation relations.Equal)
    ∷ (codes "!=", relation relations.Unequal)
    ∷ (codes "<=", relation relations.AtMost)
    ∷ (codes ">=", relation relations.AtLeast)
    ∷ (codes "<", relation relations.Less)
    ∷ (codes ">", relation relations.Greater)
    ∷ (codes "=", mark marks.Assign)
    ∷ (codes "(", mark marks.LeftParen)
    ∷ (codes ")", mark marks.RightParen)
    ∷ (codes "{", mark marks.LeftBrace)
    ∷ (codes "}", mark marks.RightBrace)
    ∷ (codes ",", mark marks.Comma)
    ∷ (codes ";", mark marks.Semicolon)
    ∷ (codes "&", mark marks.Ampersand)
    ∷ (codes "+", additive additives.Plus)
    ∷ (codes "-", additive additives.Minus)
    ∷ (codes "*", multiplicative multiplicatives.Times)
    ∷ (codes "/", multiplicative multiplicatives.Divide)
    ∷ (codes "%", multiplicative multiplicatives.Modulo)
    ∷ []

abbrev pub spelled_by : List Spelling → List ℕ → Kind
spelled_by [] w = name w
spelled_by (s ∷ ss) w = cond (bytes_eq w s.0) s.1 (spelled_by ss w)

abbrev pub word_kind : List ℕ → Kind
word_kind w = spelled_by reserved w

abbrev pub value_of : List ℕ → ℕ
value_of ds = fold (λ v d. v * 10 + (d - 48)) 0 ds

abbrev pub word_at : List ℕ → Option (Kind × ℕ)
word_at bs = Some (word_kind (take (prefix_len word_byte bs) bs), prefix_len word_byte bs)

abbrev pub zero_first : List ℕ → Bool
zero_first bs = nat_le 2 (prefix_len digit bs) && begins (codes "0") bs

abbrev pub number_at : List ℕ → Option (Kind × ℕ)
number_at bs = cond (zero_first bs) None (Some (number (value_of (take (prefix_len digit bs) bs)), prefix_len digit bs))

-- behind `#include`: n spaces and tabs, then the file's name
abbrev pub head_end : ℕ → List ℕ → Option (Kind × ℕ)
head_end n bs = cond (begins (codes "<stdio.h>") (drop n bs)) (Some (mark marks.Head, 17 + n)) None

abbrev pub head_at : List ℕ → Option (Kind × ℕ)
head_at bs = cond (begins (codes "#include") bs) (head_end (prefix_len gap (drop 8 bs)) (drop 8 bs)) None

abbrev pub first_of : List Spelling → List ℕ → Option (Kind × ℕ)
first_of [] bs = None
first_of (s ∷ ss) bs = cond (begins s.0 bs) (Some (s.1, length s.0)) (first_of ss bs)

abbrev pub symbol_at : List ℕ → Option (Kind × ℕ)
symbol_at bs = first_of symbols bs

abbrev pub scanned : List ℕ → Option (Kind × ℕ)
scanned [] = None
scanned (b ∷ bs) =
    cond (letter b) (word_at (b ∷ bs))
    (cond (digit b) (number_at (b ∷ bs))
    (cond (b == 35) (head_at (b ∷ bs))
    (symbol_at (b ∷ bs))))

abbrev pub limited_kind : Kind → Kind
limited_kind (mark m) = mark m
limited_kind (name w) = name w
limited_kind (number v) = number (min v 1073741824)
limited_kind (relation r) = relation r
limited_kind (additive a) = additive a
limited_kind (multiplicative m) = multiplicative m

abbrev pub limited : Option (Kind × ℕ) → Option (Kind × ℕ)
limited None = None
limited (Some x) = Some (limited_kind x.0, x.1)

abbrev pub seen : List ℕ → Option Found → Option (Kind × ℕ)
seen bs None = None
seen bs (Some f) = Some (kind_of f.kind (take f.length bs), f.length)
