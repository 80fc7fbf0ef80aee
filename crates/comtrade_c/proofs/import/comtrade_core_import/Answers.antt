use Rattle.std.proofs.Common.{sym, ap, ◌∙◌, w32, rules}
use Rattle.std.proofs.lemmas.Int.{to_z-of_z}
use Rattle.comtrade_c.proofs.import.comtrade_core_import.Goals as goal

pub returns-clause-done : goal.returns-clause-done
returns-clause-done c = λ is.
    let done = sym (to_z-of_z w32 c.put_all.result (search rules)) ∙ is in
    let lengths = c.put_all.ensures.lengths in
    record {
      texts = record {
        cfg = c.in-Ok.imported.cfg.items;
        dat = c.in-Ok.imported.dat.items;
        notes = c.deref-2.result.now;
        becomes = record {
          file = c.in-Ok.ensures.file;
          reads = c.in-Ok.ensures.reads;
          untold = λ single none. c.in-Ok.ensures.untold single (sym (ap (λ l. l.repairs) lengths) ∙ none);
        };
        cfg_length = ap (λ l. l.cfg) lengths;
        dat_length = ap (λ l. l.dat) lengths;
        notes_length = ap (λ l. l.notes) lengths;
      };
      cfg_text = c.put_all.ensures.cfg done;
      dat_text = c.put_all.ensures.dat done;
      notes_text = c.put_all.ensures.notes done;
    }
