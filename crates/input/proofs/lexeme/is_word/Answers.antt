use Rattle.input.proofs.Words.{is_word}
use Rattle.input.proofs.lexeme.is_word.Goals as goal

pub returns : goal.returns
returns c = is_word c.args.name.now c.args.word.now _ c.eq_ignore_ascii_case.ensures.test c.requires
