use Rattle.dfr_folder.specs.Events.{same_name}
use Rattle.dfr_folder.proofs.SeenLemmas.{same_refl, same_apart, push_there, push_other}
use Rattle.dfr_folder.proofs.seen.add.Goals as goal

pub returns-clause-there : goal.returns-clause-there
returns-clause-there c = rw c.in_ok-push.ensures.items (push_there (λ n. same_name n c.args.name) c.args.names.now.items _ (same_refl c.args.name) c.requires.new)

pub returns-clause-elsewhere : goal.returns-clause-elsewhere
returns-clause-elsewhere c = λ n differ. rw c.in_ok-push.ensures.items (push_other (λ m. same_name m n) c.args.names.now.items _ (same_apart c.args.name n differ))
