use Rattle.std.proofs.Common.{◌≡◌, ◌≤◌, ℕ, List, [], ◌∙◌, true, length, refl, sym, ap, subst, arith}
use Rattle.dfr_folder.specs.declared.name.Seen.{Seen}
use Rattle.dfr_folder.specs.Directory.{Content}
use Rattle.dfr_folder.specs.Events.{Event, failed, left, left_since, only_now, state_of}
use Rattle.dfr_folder.specs.Pairs.{AllWhole, Mends}
use Rattle.dfr_folder.proofs.Dropping.{since_old}
use Rattle.dfr_folder.proofs.Clean.{no_state, none_failed, since_log}
use Rattle.dfr_folder.proofs.Mends.{same_mends}
use Rattle.dfr_folder.proofs.RecordedLemmas.{all_on_disk}
use Rattle.dfr_folder.proofs.opened.open_folder.Goals as goal

pub recover_all-requires : goal.recover_all-requires
recover_all-requires g c = record { synced = λ are key end. all_on_disk g.S.Start.bytes c.in_ok-opened.opened.names.items c.in_ok-opened.opened.log.calls (c.in_ok-opened.ensures.synced are) key end }

pub returns : goal.returns
returns g c =
    let other = g.S.Start.bytes in
    let start = g.S.Start.may_leave in
    let o = c.in_ok-opened.opened in
    let new = c.recover_all.new.directory in
    let synced = c.in_ok-opened.are_synced in
    let there = new.names.items in
    let none : o.log.calls ≡ [] = c.in_ok-opened.ensures.begins in
    let logged = c.note_opened.ensures.log in
    let before : (d : Content) → left other start o.log.calls d → start d = λ d was. subst (λ (calls : List Event). left other start calls d) none was in
    let at_log : (d : Content) → left_since other start 0 c.note_opened.new.self.log.calls d → left_since other start (length o.log.calls) new.log.calls d = λ d since.
    subst (λ (n : ℕ). left_since other start n new.log.calls d) (sym (ap (λ (calls : List Event). length calls) none))
    (since_log other start there new.log.calls synced d (subst (λ (calls : List Event). left_since other start 0 calls d) logged since)) in
    let at_first : (d : Content) → left_since other start (length o.log.calls) o.log.calls d → start d = λ d now. before d (only_now other start o.log.calls d now) in
    let failures : failed c.note_opened.new.self.log.calls ≡ 0 → (synced ≡ true) × (failed new.log.calls ≤ 0) = λ zero.
    none_failed other start there new.log.calls synced (subst (λ (calls : List Event). failed calls ≡ 0) logged zero) in
    let few : failed new.log.calls ≤ 0 → failed new.log.calls ≤ failed o.log.calls = λ less. omega (arith, less) in
    record {
      whole = λ records all d since.
          since_old _ _ o new (AllWhole records) (c.recover_all.ensures.whole records (λ e was. all e (before e was))) (λ e now. all e (at_first e now)) d (at_log d since);
      from = λ zero d since.
          let f = failures zero in
          let moments = c.recover_all.ensures.from f.0 (few f.1) in
          let m = since_old _ _ o new (Mends (left other start o.log.calls)) moments (λ e now. (e, only_now other start o.log.calls e now, λ k. same_mends _ _ (λ end. refl))) d (at_log d since) in
          (m.0, before m.0 m.1, m.2);
      clean = λ zero n is.
          let f = failures zero in
          ap (λ (names : List Seen). state_of names n) c.note_opened.ensures.names ∙ no_state (state_of there n) _ (c.recover_all.ensures.clean f.0 (few f.1) n is);
    }
