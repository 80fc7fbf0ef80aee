use Rattle.dfr_folder.proofs.DatedLemmas as names
use Rattle.dfr_folder.proofs.dated.names_sort.Goals as goal

pub returns : goal.returns
returns c = names.names_sort
