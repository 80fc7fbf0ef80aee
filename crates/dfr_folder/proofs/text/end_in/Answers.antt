use Rattle.std.proofs.Common.{Some, sym}
use Rattle.dfr_folder.specs.Texts.{ending_text, numbers_text}
use Rattle.dfr_folder.proofs.SeenLemmas.{Some_not_None}
use Rattle.dfr_folder.proofs.TextLemmas.{numbers_lack, same_end, same_numbers}
use Rattle.dfr_folder.proofs.text.end_in.Goals as goal

pub returns-in_default-numbers_in-clause-reads : goal.returns-in_default-numbers_in-clause-reads
returns-in_default-numbers_in-clause-reads c = λ n k end few some less is.
    let parts = c.in-Some.ensures.reads (numbers_text n k) (ending_text end) (numbers_lack n k few some less) is in
    absurd (Some_not_None (n, k) (sym (c.in_default-numbers_in.ensures.reads n k few some less parts.0)))

pub returns-in_default-ending_in-clause-reads : goal.returns-in_default-ending_in-clause-reads
returns-in_default-ending_in-clause-reads c = λ n k end few some less is.
    let parts = c.in-Some.ensures.reads (numbers_text n k) (ending_text end) (numbers_lack n k few some less) is in
    absurd (Some_not_None end (sym (c.in_default-ending_in.ensures.reads end parts.1)))

pub returns-clause-reads : goal.returns-clause-reads
returns-clause-reads c = λ n k end few some less is.
    let parts = c.in-Some.ensures.reads (numbers_text n k) (ending_text end) (numbers_lack n k few some less) is in
    let numbers = same_numbers c.in-Some-numbers_in.number c.in-Some-numbers_in.copy n k (c.in-Some-numbers_in.ensures.reads n k few some less parts.0) in
    let same = same_end c.in-Some-ending_in.ending end (c.in-Some-ending_in.ensures.reads end parts.1) in
    λ i. Some (numbers.0 i, numbers.1 i, same i)
