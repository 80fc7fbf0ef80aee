use Rattle.std.proofs.Common.{◌∷◌, ◌++◌, ℕ, List, Some, sym, ◌∙◌, ap}
use Rattle.comtrade_values.specs.Written.{padded}
use Rattle.dfr_folder.specs.declared.name.Name.{Name}
use Rattle.dfr_folder.specs.Texts.{ending_text, numbers_text}
use Rattle.dfr_folder.proofs.SeenLemmas.{Some_not_None}
use Rattle.dfr_folder.proofs.TextLemmas.{name_is, same_ends}
use Rattle.dfr_folder.proofs.text.read_name.Goals as goal

pub returns-in_default-clause-reads : goal.returns-in_default-clause-reads
returns-in_default-clause-reads c = λ name fits is.
    let k = name.key in
    absurd (c.in_default.ensures.reads k.date k.time k.micros (numbers_text k.number k.copy ++ (46 ∷ ending_text name.ending)) fits.date fits.time fits.micros (is ∙ name_is name))

pub returns-in_default-end_in-clause-reads : goal.returns-in_default-end_in-clause-reads
returns-in_default-end_in-clause-reads c = λ name fits is.
    let k = name.key in
    let parts = c.in-Some.ensures.reads k.date k.time k.micros (numbers_text k.number k.copy ++ (46 ∷ ending_text name.ending)) fits.date fits.time fits.micros (is ∙ name_is name) in
    absurd (Some_not_None (k.number, k.copy, name.ending) (sym (c.in_default-end_in.ensures.reads k.number k.copy name.ending fits.number fits.some fits.copy parts.3)))

pub returns-clause-spelled : goal.returns-clause-spelled
returns-clause-spelled c =
    let s = c.in-Some in
    let e = c.in-Some-end_in in
    let made : Name = record { key = record { date = s.date; time = s.time; micros = s.micros; number = e.number; copy = e.copy }; ending = e.ending } in
    s.ensures.spelled ∙ ap (λ (xs : List ℕ). padded 8 s.date ++ (84 ∷ (padded 6 s.time ++ (46 ∷ (padded 6 s.micros ++ (45 ∷ xs)))))) e.ensures.spelled ∙ sym (name_is made)

pub returns-clause-reads : goal.returns-clause-reads
returns-clause-reads c = λ name fits is.
    let k = name.key in
    let s = c.in-Some in
    let e = c.in-Some-end_in in
    let parts = s.ensures.reads k.date k.time k.micros (numbers_text k.number k.copy ++ (46 ∷ ending_text name.ending)) fits.date fits.time fits.micros (is ∙ name_is name) in
    let ends = same_ends e.number e.copy k.number k.copy e.ending name.ending (e.ensures.reads k.number k.copy name.ending fits.number fits.some fits.copy parts.3) in
    λ i. Some (record { key = record { date = parts.0 i; time = parts.1 i; micros = parts.2 i; number = ends.0 i; copy = ends.1 i }; ending = ends.2 i })
