use Rattle.stack.proofs.Contents.{contents-pop}
use Rattle.stack.proofs.Stack.pop.Goals as goal
use Rattle.std.proofs.Common.{rules}

pub returns-clause-contents : goal.returns-clause-contents
returns-clause-contents g c = search (rules, contents-pop)
