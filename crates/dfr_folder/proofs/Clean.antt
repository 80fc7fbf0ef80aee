-- What opening a folder ends in.
use Rattle.std.proofs.Common.{◌≡◌, ◌≤◌, ℕ, Bool, true, false, List, Option, Some, None, inl, inr, refl, ◌∙◌, arith}
use Rattle.dfr_folder.specs.declared.name.Ending.{Ending}
use Rattle.dfr_folder.specs.declared.name.Ending.TheVariants as ending
use Rattle.dfr_folder.specs.declared.name.Key.{Key}
use Rattle.dfr_folder.specs.declared.name.Name.{Name}
use Rattle.dfr_folder.specs.declared.name.Seen.{Seen}
use Rattle.dfr_folder.specs.Directory.{Content, File}
use Rattle.dfr_folder.specs.Events.{Event, left_since, failed, file_of}
use Rattle.dfr_folder.specs.Opened.{opened_log}
use Rattle.dfr_folder.specs.Pairs.{bytes_of, is_leftover, seen, tidied}

no_bytes : (o : Option File) → bytes_of o ≡ None → o ≡ None
no_bytes None e = refl
no_bytes (Some file) e = absurd (cc e)

pub no_state : (o : Option Bool) (bytes : List ℕ) → file_of o bytes ≡ None → o ≡ None
no_state None bytes e = refl
no_state (Some synced) bytes e = absurd (cc e)

none_tidied : {D : Type 0} (files : D → Name → Option File) (old : D) (key : Key) (end : Ending) → is_leftover end ≡ true → tidied (seen files old key) end ≡ None
none_tidied files old key ending.Config is = absurd (cc is)
none_tidied files old key ending.Data is = absurd (cc is)
none_tidied files old key ending.ConfigPart is = refl
none_tidied files old key ending.DataPart is = refl
none_tidied files old key ending.Gone is = refl

-- recovery leaves no leftover
pub no_leftover : {D : Type 0} (files : D → Name → Option File) (old new : D) → ((key : Key) (end : Ending) → seen files new key end ≡ tidied (seen files old key) end)
    → (n : Name) → is_leftover n.ending ≡ true → files new n ≡ None
no_leftover files old new clean n is = no_bytes (files new n) (clean n.key n.ending ∙ none_tidied files old n.key n.ending is)

module _ (other : ℕ → Name → List ℕ) (start : Content → Type 0) (there : List Seen) (calls : List Event) where
  -- a failure that is noted at last changes nothing
  pub since_log : (synced : Bool) (c : Content) → left_since other start 0 (opened_log synced there calls) c → left_since other start 0 calls c
  since_log true c since = since
  since_log false c (inl now) = inl now
  since_log false c (inr was) = was.1

  pub none_failed : (synced : Bool) → failed (opened_log synced there calls) ≡ 0 → (synced ≡ true) × (failed calls ≤ 0)
  none_failed true none = (refl, omega arith)
  none_failed false none = absurd (omega arith)
