use Rattle.gno_terms.proofs.OneText.{one_type_a_text}
use Rattle.gno_terms.proofs.laws.one_type_a_text.Goals as goal

pub returns : goal.returns
returns c = one_type_a_text
