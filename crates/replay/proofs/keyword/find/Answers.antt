use Rattle.std.proofs.Common.{rules, tests, ◌∙◌}
use Rattle.std.proofs.lemmas.Iterator.{YieldsList-from_slice}
use Rattle.std.proofs.lemmas.Iterator.Search.{find_from_yields_List}
use Rattle.std.specs.Str.{bytes_eq}
use Rattle.replay.specs.Keywords.{name_of}
use Rattle.replay.proofs.keyword.find.Goals as goal

pub returns : goal.returns
returns c =
    c.copied.ensures
    ∙ find_from_yields_List (λ k. bytes_eq (name_of k) c.args.word.now) _ _ c.find.result c.find.ensures.ran (YieldsList-from_slice c.args.keywords.now cc)
    (λ x b q k. search (rules, tests))
