-- What is said of a stream by its application and address.
use Rattle.std.proofs.Common.{◌≡◌, ◌∙◌, refl, sym, ap, subst, ℕ, List, Option, Some, None, Ok, Err, Result}
use Rattle.comtrade_values.specs.Lines.{field}
use Rattle.dfr_plan.specs.Drafts.{DraftParts}
use Rattle.dfr_plan.specs.Refusing.{Makes, needed}
use Rattle.dfr_plan.specs.Streams.{address, app_id, of_source, with_source}
use Rattle.dfr_plan.specs.declared.fault.PlanFault.{PlanFault}
use Rattle.dfr_plan.specs.declared.fault.PlanFault.TheVariants.{Address}
use Rattle.dfr_plan.specs.declared.fault.LineRefusal.{LineRefusal}

pub makes_by : {X Y : Type 0} (said told : Result Y PlanFault) (new : Y) (r : Result X LineRefusal) → said ≡ told → Makes told new r → Makes said new r
makes_by said told new r e h = subst (λ x. Makes x new r) (sym e) h

-- the fields of a line whose application and address were read
pub source_by : (d : DraftParts) (fs : List (List ℕ)) (app : ℕ) (mac first second : List ℕ) (read : Option (List ℕ))
    → first ≡ field fs 0 → Ok app ≡ app_id first → second ≡ field fs 1 → read ≡ address second → Ok mac ≡ needed read Address
    → with_source d fs ≡ of_source d app mac
source_by d fs app mac first second read a b e f h =
    let app_is : app_id (field fs 0) ≡ Ok app = ap (λ (t : List ℕ). app_id t) (sym a) ∙ sym b in
    let mac_is : needed (address (field fs 1)) Address ≡ Ok mac =
    ap (λ (t : List ℕ). needed (address t) Address) (sym e) ∙ ap (λ (o : Option (List ℕ)). needed o Address) (sym f) ∙ sym h in
    rw (app_is, mac_is) refl
