use Rattle.std.proofs.Common.{codes, arith, rules}
use Rattle.lexer.proofs.Words.{reserved_is}
use Rattle.lexer.proofs.scan.word_kind.Goals as goal

pub returns-in-main : goal.returns-in-main
returns-in-main c = reserved_is c.args.word.now (codes "main") (omega arith) (search rules)

pub returns-in-scanf : goal.returns-in-scanf
returns-in-scanf c = reserved_is c.args.word.now (codes "scanf") (omega arith) (search rules)

pub returns-in-printf : goal.returns-in-printf
returns-in-printf c = reserved_is c.args.word.now (codes "printf") (omega arith) (search rules)

pub returns-in-else : goal.returns-in-else
returns-in-else c = reserved_is c.args.word.now (codes "else") (omega arith) (search rules)

pub returns-in-while : goal.returns-in-while
returns-in-while c = reserved_is c.args.word.now (codes "while") (omega arith) (search rules)

pub returns-in-return : goal.returns-in-return
returns-in-return c = reserved_is c.args.word.now (codes "return") (omega arith) (search rules)
