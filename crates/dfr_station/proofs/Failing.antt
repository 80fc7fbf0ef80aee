-- What is known of a run that failed.
use Rattle.std.proofs.Common.{◌≡◌, Bool, List, [], Option, Result, Ok, Err, inl, inr, refl, sym, ◌∙◌, ap, subst}
use Rattle.std.specs.Prelude.{IfOk, IfErr}
use Rattle.std.proofs.lemmas.List.Elements.{All-nil}
use Rattle.dfr_channels.specs.Parts.{SetupParts}
use Rattle.dfr_recorder.specs.History.{Opening}
use Rattle.dfr_recorder.specs.Parts.{RecordParts}
use Rattle.comtrade_format.specs.declared.file.Kind.{Kind}
use Rattle.dfr_live.specs.Causes.{HasCause}
use Rattle.dfr_live.specs.Devices.{GivesOf, LosesOf, PutsOf, LacksOf, Handed, IsTaken, Got, GotFront, GotNoMore, Stopped}
use Rattle.dfr_live.specs.declared.ended.EndFault.TheVariants as unended
use Rattle.dfr_live.specs.declared.outcome.OpenFault.{OpenFault}
use Rattle.dfr_live.specs.declared.report.LiveFault.{LiveFault}
use Rattle.dfr_live.specs.declared.report.LiveFault.TheVariants as live
use Rattle.dfr_station.specs.Failing.{IsShort, IsToldAs, DevicesFail, IsFaultOf, StoredSome, StationFails}
use Rattle.dfr_station.specs.Storing.{StoresOf, Exporting, unasked, PutsPair, LacksPair}
use Rattle.dfr_station.specs.declared.intake.ended.RunFault.{RunFault}
use Rattle.dfr_station.specs.declared.intake.ended.RunFault.TheVariants as run

-- ---- from the threads to the devices of a station

module _ {A F O K : Type 0} (Gives : GivesOf A F) (Loses : LosesOf F) (Puts : PutsOf K) (Lacks : LacksOf K) (o : Opening) (kind : Kind)
    (refused : Option OpenFault) (old new : F × O × K) where
  short_fails : (r : RunFault) → IsShort r → GotFront Puts Lacks o kind old.2 new.2 → DevicesFail Puts Lacks o kind refused old new r
  unfolding DevicesFail
  short_fails r (inl is) front = subst (DevicesFail Puts Lacks o kind refused old new) (sym is) front
  short_fails r (inr is) front = subst (DevicesFail Puts Lacks o kind refused old new) (sym is) front

  devices_fail : (fault : LiveFault) (r : RunFault) → IsToldAs fault r → HasCause Gives Loses Puts Lacks o kind refused old new fault
      → GotFront Puts Lacks o kind old.2 new.2 → DevicesFail Puts Lacks o kind refused old new r
  unfolding DevicesFail
  devices_fail (live.Open why) r is cause front = subst (DevicesFail Puts Lacks o kind refused old new) (sym is) cause
  devices_fail (live.End why) r is cause front = subst (DevicesFail Puts Lacks o kind refused old new) (sym is) front
  devices_fail live.Counter r is cause front = subst (DevicesFail Puts Lacks o kind refused old new) (sym is) front
  devices_fail live.Memory r is cause front = short_fails r is front
  devices_fail live.Turns r is cause front = short_fails r is front
  devices_fail (live.Feed code) r is cause front = short_fails r is front
  devices_fail (live.Sink code) r is cause front = short_fails r is front

  pub told_fails : {T : Type 0} (out : Result T RunFault) (report : Result T LiveFault)
      → IfErr out (λ r. (fault : LiveFault) × (report ≡ Err fault) × IsToldAs fault r)
      → IfErr report (HasCause Gives Loses Puts Lacks o kind refused old new)
      → GotFront Puts Lacks o kind old.2 new.2
      → IfErr out (DevicesFail Puts Lacks o kind refused old new)
  told_fails (Ok made) report told cause front = tt
  told_fails (Err r) report told cause front =
      devices_fail told.0 r told.2 (rw told.1 at cause) front

-- a run that did not begin leaves the devices as they were
pub none_begun : {F O K : Type 0} (Puts : PutsOf K) (Lacks : LacksOf K) (o : Opening) (kind : Kind) (refused : Option OpenFault) (old : F × O × K)
    → DevicesFail Puts Lacks o kind refused old old run.Thread
unfolding DevicesFail
none_begun Puts Lacks o kind refused old = ([], old.2, (All-nil (λ (x : Handed). IsTaken o x.0), refl), inl refl)

-- ---- from the devices to the store

module _ {K : Type 0} (Stores : StoresOf K) where
  abbrev Lacks : LacksOf (Exporting K)
  Lacks s extent short t = LacksPair s short t

  -- an outlet that refuses nothing has not ended a run
  never_stopped : (layout : SetupParts) (kind : Kind) (s : Exporting K) (r : RecordParts) (why : LiveFault) (t : Exporting K)
      → Stopped (PutsPair Stores) Lacks layout kind s r why t → ⊥
  never_stopped layout kind s r (live.Sink code) t h = let e : Err code ≡ Ok tt = h.3.0 in cc
  never_stopped layout kind s r live.Memory t h = h.3
  never_stopped layout kind s r (live.Feed code) t h = h
  never_stopped layout kind s r live.Turns t h = h
  never_stopped layout kind s r live.Counter t h = h
  never_stopped layout kind s r (live.Open why) t h = h
  never_stopped layout kind s r (live.End why) t h = h

  no_more : (o : Opening) (kind : Kind) (s t : Exporting K) → GotNoMore (PutsPair Stores) Lacks o kind s t → t ≡ s
  no_more o kind s t (inl same) = same
  no_more o kind s t (inr h) = absurd (never_stopped o.layout kind s h.0 h.1 t h.3)

  stored_some : (o : Opening) (kind : Kind) (by_clock : Bool) (s t : Exporting K) (store left : K) → s ≡ unasked o kind by_clock store → t.store ≡ left
      → GotFront (PutsPair Stores) Lacks o kind s t → StoredSome Stores o kind by_clock store left
  stored_some o kind by_clock s t store left begins ends h =
      let last = no_more o kind h.1 t h.3 in
      (h.0, h.1, subst (λ (x : Exporting K). Got (PutsPair Stores) Lacks o kind x h.0 h.1) begins h.2, ap (λ (x : Exporting K). x.store) (sym last) ∙ ends)

  pub stored_all : (o : Opening) (kind : Kind) (by_clock : Bool) (s t : Exporting K) (records : List Handed) (store left : K) → s ≡ unasked o kind by_clock store → t.store ≡ left
      → Got (PutsPair Stores) Lacks o kind s records t → StoredSome Stores o kind by_clock store left
  stored_all o kind by_clock s t records store left begins ends got =
      (records, t, subst (λ (x : Exporting K). Got (PutsPair Stores) Lacks o kind x records t) begins got, ends)

  module _ {F O I : Type 0} (o : Opening) (kind : Kind) (by_clock : Bool) (refused : Option OpenFault) (old new : F × O × Exporting K) (input input_left : I) (store store_left : K)
      (begins : old.2 ≡ unasked o kind by_clock store) (ends : new.2.store ≡ store_left) (same : new ≡ old → input_left ≡ input) where
    unchanged : new ≡ old → ◌≡◌ {A = I × K} (input_left, store_left) (input, store)
    unchanged is =
        let kept : store_left ≡ store = sym ends ∙ ap (λ (d : F × O × Exporting K). d.2.store) is ∙ ap (λ (x : Exporting K). x.store) begins in
        rw (same is, kept) refl

    stored : GotFront (PutsPair Stores) Lacks o kind old.2 new.2 → StoredSome Stores o kind by_clock store store_left
    stored = stored_some o kind by_clock old.2 new.2 store store_left begins ends

    pub run_fails : (r : RunFault) → DevicesFail (PutsPair Stores) Lacks o kind refused old new r
        → StationFails Stores o kind by_clock refused (input, store) (input_left, store_left) r
    unfolding DevicesFail
    run_fails run.Memory fails = unchanged fails
    run_fails run.Thread fails = stored fails
    run_fails (run.Open why) fails = (unchanged fails.0, fails.1)
    run_fails run.Counter fails = stored fails
    run_fails (run.End why) fails = stored fails

-- ---- from the report to what a station gives back

module _ {T : Type 0} (P : RunFault → Type 0) (Q : T → Type 0) (unheard : (x : T) → Q x → P (run.End unended.Mismatch)) where
  fault_fails : (report : Result T RunFault) (r : RunFault) → IsFaultOf report r → IfErr report P → IfOk report Q → P r
  fault_fails report r (inl is) fails ran = rw is at fails
  fault_fails report r (inr (is, (x, made))) fails ran = rw is (unheard x (rw made at ran))

  pub out_fails : {U : Type 0} (report all : Result T RunFault) (out : Result U RunFault) → IfErr out (λ r. all ≡ Err r) → IfErr all (λ r. IsFaultOf report r)
      → IfErr report P → IfOk report Q → IfErr out P
  out_fails report all (Ok left) told passed fails ran = tt
  out_fails report all (Err r) told passed fails ran =
      let fault : IsFaultOf report r = rw told at passed in fault_fails report r fault fails ran
