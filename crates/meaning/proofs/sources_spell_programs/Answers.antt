use Rattle.meaning.proofs.Shallow.{one_program, shallow}
use Rattle.meaning.proofs.sources_spell_programs.Goals as goal

pub returns : goal.returns
returns c = record { one = one_program; shallow = shallow }
