-- What a crash leaves of the files of a pair that is put.
use Rattle.std.proofs.Common.{◌≡◌, ◌⊎◌, ℕ, List, Option, Some, None, refl, ◌∙◌, ap, inl, inr}
use Rattle.dfr_folder.specs.declared.name.Ending.{Ending}
use Rattle.dfr_folder.specs.declared.name.Ending.TheVariants as ending
use Rattle.dfr_folder.specs.Directory.{File, on_disk}
use Rattle.dfr_folder.specs.Pairs.{Files, found_of, IsNoneOr, pair, synced}
use Rattle.dfr_folder.proofs.Beside.{But, Renamed}

abbrev pub Any : Option (List ℕ) → Type 0
Any o = Unit {0}

abbrev pub IsNothing : Option (List ℕ) → Type 0
IsNothing o = o ≡ None

-- nothing, or these bytes
abbrev pub IsMaybe : List ℕ → Option (List ℕ) → Type 0
IsMaybe bytes o = (o ≡ None) ⊎ (o ≡ Some bytes)

-- no file has its name yet
pub record IsUnnamed (X Y : Option (List ℕ) → Type 0) (f : Files) : Type 0 where
  pub config : f ending.Config ≡ None
  pub data_file : f ending.Data ≡ None
  pub gone : f ending.Gone ≡ None
  pub config_part : X (f ending.ConfigPart)
  pub data_part : Y (f ending.DataPart)

-- both are written
abbrev pub parts : List ℕ → List ℕ → Files
parts cfg dat ending.Config = None
parts cfg dat ending.Data = None
parts cfg dat ending.ConfigPart = Some cfg
parts cfg dat ending.DataPart = Some dat
parts cfg dat ending.Gone = None

-- the data file has its name
abbrev pub half : List ℕ → List ℕ → Files
half cfg dat ending.Config = None
half cfg dat ending.Data = Some dat
half cfg dat ending.ConfigPart = Some cfg
half cfg dat ending.DataPart = None
half cfg dat ending.Gone = None

pub nothing_unnamed : (f : Files) → ((e : Ending) → f e ≡ None) → IsUnnamed IsNothing IsNothing f
nothing_unnamed f none = record { config = none ending.Config; data_file = none ending.Data; gone = none ending.Gone; config_part = none ending.ConfigPart; data_part = none ending.DataPart }

-- while the data file is written
pub data_written : (X Y : Option (List ℕ) → Type 0) (f : Files) → But ending.DataPart (IsUnnamed X Y) f → IsUnnamed X Any f
data_written X Y f but =
    let same = but.2 in
    let was = but.1 in
    record {
      config = same ending.Config (λ e. absurd (cc)) ∙ was.config;
      data_file = same ending.Data (λ e. absurd (cc)) ∙ was.data_file;
      gone = same ending.Gone (λ e. absurd (cc)) ∙ was.gone;
      config_part = rw (same ending.ConfigPart (λ e. absurd (cc))) was.config_part;
      data_part = tt;
    }

-- while the configuration file is written
pub config_written : (X Y : Option (List ℕ) → Type 0) (f : Files) → But ending.ConfigPart (IsUnnamed X Y) f → IsUnnamed Any Y f
config_written X Y f but =
    let same = but.2 in
    let was = but.1 in
    record {
      config = same ending.Config (λ e. absurd (cc)) ∙ was.config;
      data_file = same ending.Data (λ e. absurd (cc)) ∙ was.data_file;
      gone = same ending.Gone (λ e. absurd (cc)) ∙ was.gone;
      config_part = tt;
      data_part = rw (same ending.DataPart (λ e. absurd (cc))) was.data_part;
    }

module _ (cfg dat : List ℕ) where
  -- no pair, whoever looks
  pub unnamed : (X Y : Option (List ℕ) → Type 0) (f : Files) → IsUnnamed X Y f → IsNoneOr (Some (cfg, Some dat)) f
  unnamed X Y f is = record {
    shown = inl (ap (λ o. found_of o (f ending.Data)) is.config);
    mended = inl (rw (is.config, is.data_file, is.gone) refl);
  }

  -- a data file without its configuration
  lone : (f : Files) → f ending.Config ≡ None → f ending.Gone ≡ None → IsMaybe dat (f ending.Data) → IsMaybe cfg (f ending.ConfigPart) → IsNoneOr (Some (cfg, Some dat)) f
  lone f config gone (inl none) part = record { shown = inl (rw config refl); mended = inl (rw (config, none, gone) refl) }
  lone f config gone (inr some) (inl no_part) = record { shown = inl (rw config refl); mended = inl (rw (config, some, gone, no_part) refl) }
  lone f config gone (inr some) (inr part) = record { shown = inl (rw config refl); mended = inr (rw (config, some, gone, part) refl) }

  -- while the data file gets its name
  pub data_named : (f : Files) → Renamed ending.DataPart ending.Data (IsUnnamed (IsMaybe cfg) (IsMaybe dat)) f → IsNoneOr (Some (cfg, Some dat)) f
  data_named f renamed =
      let was = renamed.1 in
      let same = renamed.4 in
      lone f (same ending.Config (λ e. absurd (cc)) (λ e. absurd (cc)) ∙ was.config) (same ending.Gone (λ e. absurd (cc)) (λ e. absurd (cc)) ∙ was.gone)
      (rw renamed.2 was.data_part) (rw (same ending.ConfigPart (λ e. absurd (cc)) (λ e. absurd (cc))) was.config_part)

  pub is_half : (f : Files) → ((e : Ending) → f e ≡ half cfg dat e) → IsNoneOr (Some (cfg, Some dat)) f
  is_half f half = lone f (half ending.Config) (half ending.Gone) (inr (half ending.Data)) (inr (half ending.ConfigPart))

  pub whole : (f : Files) → f ending.Config ≡ Some cfg → f ending.Data ≡ Some dat → IsNoneOr (Some (cfg, Some dat)) f
  whole f config data_file = record { shown = inr (rw (config, data_file) refl); mended = inr (rw (config, data_file) refl) }

  -- while the configuration file gets its name
  pub config_named : (f : Files) → Renamed ending.ConfigPart ending.Config (λ f. (e : Ending) → f e ≡ half cfg dat e) f → IsNoneOr (Some (cfg, Some dat)) f
  config_named f renamed =
      whole f (renamed.2 ∙ renamed.1 ending.ConfigPart) (renamed.4 ending.Data (λ e. absurd (cc)) (λ e. absurd (cc)) ∙ renamed.1 ending.Data)

  -- What is seen of the files, one call after the other.
  pub see_parts : (s0 s1 s2 : Ending → Option File) → ((e : Ending) → s0 e ≡ None) → ((e : Ending) → (e ≡ ending.DataPart → ⊥) → s1 e ≡ s0 e) → s1 ending.DataPart ≡ on_disk dat
      → ((e : Ending) → (e ≡ ending.ConfigPart → ⊥) → s2 e ≡ s1 e) → s2 ending.ConfigPart ≡ on_disk cfg → (e : Ending) → s2 e ≡ synced (parts cfg dat e)
  see_parts s0 s1 s2 none same1 data_file same2 config ending.Config = same2 ending.Config (λ e. absurd (cc)) ∙ same1 ending.Config (λ e. absurd (cc)) ∙ none ending.Config
  see_parts s0 s1 s2 none same1 data_file same2 config ending.Data = same2 ending.Data (λ e. absurd (cc)) ∙ same1 ending.Data (λ e. absurd (cc)) ∙ none ending.Data
  see_parts s0 s1 s2 none same1 data_file same2 config ending.ConfigPart = config
  see_parts s0 s1 s2 none same1 data_file same2 config ending.DataPart = same2 ending.DataPart (λ e. absurd (cc)) ∙ data_file
  see_parts s0 s1 s2 none same1 data_file same2 config ending.Gone = same2 ending.Gone (λ e. absurd (cc)) ∙ same1 ending.Gone (λ e. absurd (cc)) ∙ none ending.Gone

  pub see_half : (s2 s3 : Ending → Option File) → ((e : Ending) → s2 e ≡ synced (parts cfg dat e)) → ((e : Ending) → (e ≡ ending.DataPart → ⊥) → (e ≡ ending.Data → ⊥) → s3 e ≡ s2 e)
      → s3 ending.Data ≡ s2 ending.DataPart → s3 ending.DataPart ≡ None → (e : Ending) → s3 e ≡ synced (half cfg dat e)
  see_half s2 s3 was same there left ending.Config = same ending.Config (λ e. absurd (cc)) (λ e. absurd (cc)) ∙ was ending.Config
  see_half s2 s3 was same there left ending.Data = there ∙ was ending.DataPart
  see_half s2 s3 was same there left ending.ConfigPart = same ending.ConfigPart (λ e. absurd (cc)) (λ e. absurd (cc)) ∙ was ending.ConfigPart
  see_half s2 s3 was same there left ending.DataPart = left
  see_half s2 s3 was same there left ending.Gone = same ending.Gone (λ e. absurd (cc)) (λ e. absurd (cc)) ∙ was ending.Gone

  pub see_pair : (s3 s4 : Ending → Option File) → ((e : Ending) → s3 e ≡ synced (half cfg dat e)) → ((e : Ending) → (e ≡ ending.ConfigPart → ⊥) → (e ≡ ending.Config → ⊥) → s4 e ≡ s3 e)
      → s4 ending.Config ≡ s3 ending.ConfigPart → s4 ending.ConfigPart ≡ None → (e : Ending) → s4 e ≡ synced (pair cfg dat e)
  see_pair s3 s4 was same there left ending.Config = there ∙ was ending.ConfigPart
  see_pair s3 s4 was same there left ending.Data = same ending.Data (λ e. absurd (cc)) (λ e. absurd (cc)) ∙ was ending.Data
  see_pair s3 s4 was same there left ending.ConfigPart = left
  see_pair s3 s4 was same there left ending.DataPart = same ending.DataPart (λ e. absurd (cc)) (λ e. absurd (cc)) ∙ was ending.DataPart
  see_pair s3 s4 was same there left ending.Gone = same ending.Gone (λ e. absurd (cc)) (λ e. absurd (cc)) ∙ was ending.Gone
