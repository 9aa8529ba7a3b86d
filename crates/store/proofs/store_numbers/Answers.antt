use borrow.Author.Rules.{rules}
use Rattle.words.proofs.Laws.{copied}
use Rattle.store.proofs.store_numbers.Goals as goal

pub returns : goal.returns
returns c = search (rules, copied)
