use Rattle.fc_check.proofs.Words.{words_of-masked}
use Rattle.fc_check.proofs.four_words.Goals as goal

pub returns : goal.returns
returns c = words_of-masked c.args.after c.args.number c.requires
