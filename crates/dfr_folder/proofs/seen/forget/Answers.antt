use Rattle.std.proofs.Common.{rules, not}
use Rattle.std.proofs.lemmas.Fn.{filter_same}
use Rattle.dfr_folder.specs.Events.{same_name}
use Rattle.dfr_folder.proofs.SeenLemmas.{filter_gone, filter_other, apart_tests}
use Rattle.dfr_folder.proofs.seen.forget.Goals as goal

pub returns-clause-gone : goal.returns-clause-gone
returns-clause-gone c =
    let is = filter_same _ (λ s. not (same_name s.name c.args.name)) _ (λ x b f' k. search rules) _ _ c.retain.ensures.filtered in
    rw is (filter_gone (λ n. same_name n c.args.name) c.args.names.now.items)

pub returns-clause-elsewhere : goal.returns-clause-elsewhere
returns-clause-elsewhere c = λ n differ.
    let is = filter_same _ (λ s. not (same_name s.name c.args.name)) _ (λ x b f' k. search rules) _ _ c.retain.ensures.filtered in
    rw is (filter_other (λ m. same_name m c.args.name) (λ m. same_name m n) (λ m same. apart_tests c.args.name n m differ same) c.args.names.now.items)
