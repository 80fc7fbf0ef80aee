-- Recovery of all keys, one after the other.
use Rattle.std.proofs.Common.{◌≡◌, ◌⊎◌, ℕ, true, false, List, [], ◌∷◌, ◌++◌, length, arith, Option, Some, None, refl, sym, ◌∙◌, ap, subst, inl, inr}
use Rattle.std.specs.Prelude.{Contains, is_some}
use Rattle.std.proofs.lemmas.Bool.{cases_eq}
use Rattle.std.proofs.lemmas.List.Elements.{Contains-push_cases}
use Rattle.dfr_folder.specs.declared.name.Ending.{Ending}
use Rattle.dfr_folder.specs.declared.name.Ending.TheVariants as ending
use Rattle.dfr_folder.specs.declared.name.Key.{Key}
use Rattle.dfr_folder.specs.declared.name.Name.{Name}
use Rattle.dfr_folder.specs.Directory.{Content, File}
use Rattle.dfr_folder.specs.Pairs.{Files, name, under, bytes_of, synced, found_of, tidied_of, only, tidied, is_leftover, seen, Beside, IsAtRest, IsMending, AllMend, MendsOne}
use Rattle.dfr_folder.proofs.Mends.{same_mends, same_recovered, same_found, same_tidied, mends_on, clean}

pub same_key : (a b : Key) → (a ≡ b) ⊎ (a ≡ b → ⊥)
same_key a b = elim (cases_eq a.date b.date) [
  | inr differ ↦ inr (λ same. differ (ap (λ (k : Key). k.date) same))
  | inl date ↦ elim (cases_eq a.time b.time) [
    | inr differ ↦ inr (λ same. differ (ap (λ (k : Key). k.time) same))
    | inl time ↦ elim (cases_eq a.micros b.micros) [
      | inr differ ↦ inr (λ same. differ (ap (λ (k : Key). k.micros) same))
      | inl micros ↦ elim (cases_eq a.number b.number) [
        | inr differ ↦ inr (λ same. differ (ap (λ (k : Key). k.number) same))
        | inl number ↦ elim (cases_eq a.copy b.copy) [
          | inr differ ↦ inr (λ same. differ (ap (λ (k : Key). k.copy) same))
          | inl copy ↦ inl (λ i. record { date = date i; time = time i; micros = micros i; number = number i; copy = copy i })
        ]
      ]
    ]
  ]
]

-- what recovery leaves stays so
again : (cfg dat : Option (List ℕ)) → tidied_of cfg dat None None None ≡ (cfg, dat)
again (Some x) (Some y) = refl
again (Some x) None = refl
again None (Some y) = refl
again None None = refl

pub tidied_again : (h f : Files) → ((e : Ending) → f e ≡ tidied h e) → (e : Ending) → tidied f e ≡ tidied h e
tidied_again h f is e = same_tidied (tidied h) f is e ∙ ap (λ (b : Option (List ℕ) × Option (List ℕ)). only b e) (again (tidied h ending.Config) (tidied h ending.Data))

pub tidied_mends : (h f : Files) → ((e : Ending) → f e ≡ tidied h e) → IsMending h f
tidied_mends h f is = record {
  mended = same_recovered (tidied h) f is ∙ ap (λ (b : Option (List ℕ) × Option (List ℕ)). found_of b.0 b.1) (again (tidied h ending.Config) (tidied h ending.Data));
  shown = inr (same_found (tidied h) f is);
}

none_or_not : (o : Option File) → (o ≡ None) ⊎ (o ≡ None → ⊥)
none_or_not None = inl refl
none_or_not (Some file) = inr (λ e. absurd (cc))

no_bytes : (o : Option File) → o ≡ None → is_some (bytes_of o) ≡ false
no_bytes None none = refl
no_bytes (Some file) none = absurd (cc)

module _ {D : Type 0} (files : D → Name → Option File) (may_leave : D → Content → Type 0) (old : D) where
  -- the key is as recovery is to make it
  abbrev pub IsDone : D → Key → Type 0
  IsDone new key = (end : Ending) → seen files new key end ≡ tidied (seen files old key) end

  -- Each key with a leftover is listed.
  pub listed : (mid : D) (keys : List Key) → ((n : Name) → files mid n ≡ files old n) → ((n : Name) → is_leftover n.ending ≡ true → (files old n ≡ None → ⊥) → Contains keys n.key)
      → (key : Key) → Contains keys key ⊎ IsDone mid key
  listed mid keys same list key = elim (none_or_not (files old (name key ending.ConfigPart))) [
    | inr not ↦ inl (list (name key ending.ConfigPart) refl not)
    | inl cfg ↦ elim (none_or_not (files old (name key ending.DataPart))) [
      | inr not ↦ inl (list (name key ending.DataPart) refl not)
      | inl dat ↦ elim (none_or_not (files old (name key ending.Gone))) [
        | inr not ↦ inl (list (name key ending.Gone) refl not)
        | inl gone ↦ inr (λ e. ap bytes_of (same (name key e)) ∙ clean (seen files old key) (no_bytes (files old (name key ending.ConfigPart)) cfg)
            (no_bytes (files old (name key ending.DataPart)) dat) (no_bytes (files old (name key ending.Gone)) gone) e)
      ]
    ]
  ]

  -- after one key more
  pub all_mend : (mid : D) (key : Key) → ((k : Key) → IsAtRest files may_leave mid k) → ((k : Key) → IsMending (seen files old k) (seen files mid k))
      → (c : Content) → Beside may_leave mid key (IsMending (seen files mid key)) c → AllMend files old c
  all_mend mid key rests mends c b k = elim (same_key k key) [
    | inl is ↦ subst (λ (x : Key). IsMending (seen files old x) (under c x)) (sym is) (mends_on (seen files old key) (seen files mid key) (under c key) (mends key) b.there)
    | inr differ ↦ mends_on (seen files old k) (seen files mid k) (under c k) (mends k)
        (same_mends (seen files mid k) (under c k) (λ e. b.elsewhere (name k e) differ ∙ (rests k).left b.before b.left e))
  ]

  pub all_rest : (mid new : D) (key : Key) → ((k : Key) → IsAtRest files may_leave mid k) → IsAtRest files may_leave new key → ((n : Name) → (n.key ≡ key → ⊥) → files new n ≡ files mid n)
      → ((c : Content) → may_leave new c → Beside may_leave mid key (IsMending (seen files mid key)) c) → (k : Key) → IsAtRest files may_leave new k
  all_rest mid new key rests here same leaves k = elim (same_key k key) [
    | inl is ↦ subst (λ (x : Key). IsAtRest files may_leave new x) (sym is) here
    | inr differ ↦ record {
      seen = λ e. same (name k e) differ ∙ (rests k).seen e ∙ ap (λ o. synced o) (sym (ap bytes_of (same (name k e) differ)));
      left = λ c left e.
          let b = leaves c left in
          b.elsewhere (name k e) differ ∙ (rests k).left b.before b.left e ∙ sym (ap bytes_of (same (name k e) differ));
    }
  ]

  pub all_made : (mid new : D) (key : Key) → ((k : Key) → IsMending (seen files old k) (seen files mid k)) → ((n : Name) → (n.key ≡ key → ⊥) → files new n ≡ files mid n)
      → ((e : Ending) → seen files new key e ≡ tidied (seen files mid key) e) → (k : Key) → IsMending (seen files old k) (seen files new k)
  all_made mid new key mends same made k = elim (same_key k key) [
    | inl is ↦ subst (λ (x : Key). IsMending (seen files old x) (seen files new x)) (sym is)
        (mends_on (seen files old key) (seen files mid key) (seen files new key) (mends key) (tidied_mends (seen files mid key) (seen files new key) made))
    | inr differ ↦ mends_on (seen files old k) (seen files mid k) (seen files new k) (mends k)
        (same_mends (seen files mid k) (seen files new k) (λ e. ap bytes_of (same (name k e) differ)))
  ]

  pub all_same : (mid new : D) (key : Key) → ((k : Key) (e : Ending) → tidied (seen files mid k) e ≡ tidied (seen files old k) e) → ((n : Name) → (n.key ≡ key → ⊥) → files new n ≡ files mid n)
      → ((e : Ending) → seen files new key e ≡ tidied (seen files mid key) e) → (k : Key) (e : Ending) → tidied (seen files new k) e ≡ tidied (seen files old k) e
  all_same mid new key alike same made k e = elim (same_key k key) [
    | inl is ↦ subst (λ (x : Key). tidied (seen files new x) e ≡ tidied (seen files old x) e) (sym is) (tidied_again (seen files mid key) (seen files new key) made e ∙ alike key e)
    | inr differ ↦ same_tidied (seen files mid k) (seen files new k) (λ end. ap bytes_of (same (name k end) differ)) e ∙ alike k e
  ]

  pub all_done : (mid new : D) (key : Key) (keys : List Key) → ((k : Key) (e : Ending) → tidied (seen files mid k) e ≡ tidied (seen files old k) e)
      → ((n : Name) → (n.key ≡ key → ⊥) → files new n ≡ files mid n)
      → ((e : Ending) → seen files new key e ≡ tidied (seen files mid key) e) → ((k : Key) → Contains (keys ++ key ∷ []) k ⊎ IsDone mid k) → (k : Key) → Contains keys k ⊎ IsDone new k
  all_done mid new key keys alike same made todo k = elim (same_key k key) [
    | inl is ↦ inr (subst (λ (x : Key). IsDone new x) (sym is) (λ e. made e ∙ alike key e))
    | inr differ ↦ elim (todo k) [
      | inr was ↦ inr (λ e. ap bytes_of (same (name k e) differ) ∙ was e)
      | inl contains ↦ elim (Contains-push_cases keys key k contains) [ inl rest ↦ inl rest | inr is ↦ absurd (differ (sym is)) ]
    ]
  ]

  -- what a crash leaves comes from what it might have left before
  pub mends_one : (mid : D) (key : Key) → IsAtRest files may_leave mid key → ((c : Content) → may_leave mid c → MendsOne may_leave old c) → (c : Content) → Beside may_leave mid key (IsMending (seen files mid key)) c
      → MendsOne may_leave old c
  mends_one mid key rests from c b =
      let one = from b.before b.left in (
        one.0,
        one.1,
        λ k. elim (same_key k key) [
          | inl is ↦ subst (λ (x : Key). IsMending (under one.0 x) (under c x)) (sym is) (mends_on (under one.0 key) (under b.before key) (under c key) (one.2 key)
              (mends_on (under b.before key) (seen files mid key) (under c key) (same_mends (under b.before key) (seen files mid key) (λ e. sym (rests.left b.before b.left e))) b.there))
          | inr differ ↦ mends_on (under one.0 k) (under b.before k) (under c k) (one.2 k) (same_mends (under b.before k) (under c k) (λ e. b.elsewhere (name k e) differ))
        ],
      )

pub none_contained : (keys : List Key) (key : Key) → length keys ≡ 0 → Contains keys key → ⊥
none_contained keys key none has = omega (arith, has.1)

-- after files of each key that are seen as before
pub all_from : {D : Type 0} (files : D → Name → Option File) (old mid : D) → ((n : Name) → files mid n ≡ files old n) → (c : Content) → AllMend files mid c → AllMend files old c
all_from files old mid same c mends k = mends_on (seen files old k) (seen files mid k) (under c k) (same_mends (seen files old k) (seen files mid k) (λ e. ap bytes_of (same (name k e)))) (mends k)

pub clean_from : {D : Type 0} (files : D → Name → Option File) (old mid new : D) → ((n : Name) → files mid n ≡ files old n)
    → ((key : Key) (end : Ending) → seen files new key end ≡ tidied (seen files mid key) end) → (key : Key) (end : Ending) → seen files new key end ≡ tidied (seen files old key) end
clean_from files old mid new same clean key end =
    clean key end ∙ same_tidied (seen files old key) (seen files mid key) (λ e. ap bytes_of (same (name key e))) end
