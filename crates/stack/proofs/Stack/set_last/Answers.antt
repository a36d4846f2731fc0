use Rattle.stack.proofs.Contents.{contents-set}
use Rattle.stack.proofs.Stack.set_last.Goals as goal
use Rattle.std.proofs.Common.{rules}

pub returns-clause-contents : goal.returns-clause-contents
returns-clause-contents g c = search (rules, contents-set)
