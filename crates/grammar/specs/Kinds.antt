-- The kinds of tokens, by the names that the grammar uses.
--   head, int, .. assign   the tokens with one spelling
--   class                  what tells tokens apart: all names are of one class, and all numbers but 0
--   same                   whether two tokens are of one class
use Rattle.std.specs.Prelude.{Bool, ℕ, zero, suc, eqb}
pub use Rattle.syntax.specs.Tokens.{Name, Kind, mark, name, number, relation, additive, multiplicative, Token, kinds}
pub use Rattle.syntax.specs.declared.token.Mark.{Mark}
pub use Rattle.syntax.specs.declared.token.Mark.TheVariants.{Head, Int, Main, Scanf, Printf, If, Else, While, Return, Format, LeftParen, RightParen, LeftBrace, RightBrace, Comma, Semicolon, Ampersand, Assign}
pub use Rattle.syntax.specs.declared.token.Relation.{Relation}
pub use Rattle.syntax.specs.declared.token.Relation.TheVariants.{Equal, Unequal, Less, Greater, AtMost, AtLeast}
pub use Rattle.syntax.specs.declared.token.Additive.{Additive}
pub use Rattle.syntax.specs.declared.token.Additive.TheVariants.{Plus, Minus}
pub use Rattle.syntax.specs.declared.token.Multiplicative.{Multiplicative}
pub use Rattle.syntax.specs.declared.token.Multiplicative.TheVariants.{Times, Divide, Modulo}

abbrev pub head : Kind
head = mark Head

abbrev pub int : Kind
int = mark Int

abbrev pub main : Kind
main = mark Main

abbrev pub scanf : Kind
scanf = mark Scanf

abbrev pub printf : Kind
printf = mark Printf

abbrev pub if : Kind
if = mark If

abbrev pub else : Kind
else = mark Else

abbrev pub while : Kind
while = mark While

abbrev pub return : Kind
return = mark Return

abbrev pub format : Kind
format = mark Format

abbrev pub left_paren : Kind
left_paren = mark LeftParen

abbrev pub right_paren : Kind
right_paren = mark RightParen

abbrev pub left_brace : Kind
left_brace = mark LeftBrace

abbrev pub right_brace : Kind
right_brace = mark RightBrace

abbrev pub comma : Kind
comma = mark Comma

abbrev pub semicolon : Kind
semicolon = mark Semicolon

abbrev pub ampersand : Kind
ampersand = mark Ampersand

abbrev pub assign : Kind
assign = mark Assign

abbrev pub mark_class : Mark → ℕ
mark_class Head = 0
mark_class Int = 1
mark_class Main = 2
mark_class Scanf = 3
mark_class Printf = 4
mark_class If = 5
mark_class Else = 6
mark_class While = 7
mark_class Return = 8
mark_class Format = 9
mark_class LeftParen = 10
mark_class RightParen = 11
mark_class LeftBrace = 12
mark_class RightBrace = 13
mark_class Comma = 14
mark_class Semicolon = 15
mark_class Ampersand = 16
mark_class Assign = 17

abbrev pub relation_class : Relation → ℕ
relation_class Equal = 21
relation_class Unequal = 22
relation_class Less = 23
relation_class Greater = 24
relation_class AtMost = 25
relation_class AtLeast = 26

abbrev pub additive_class : Additive → ℕ
additive_class Plus = 27
additive_class Minus = 28

abbrev pub multiplicative_class : Multiplicative → ℕ
multiplicative_class Times = 29
multiplicative_class Divide = 30
multiplicative_class Modulo = 31

abbrev pub class : Kind → ℕ
class (mark m) = mark_class m
class (name n) = 18
class (number zero) = 19
class (number (suc v)) = 20
class (relation r) = relation_class r
class (additive a) = additive_class a
class (multiplicative m) = multiplicative_class m

abbrev pub same : Kind → Kind → Bool
same a b = eqb (class a) (class b)
