-- What a crash leaves after one call more.
use Rattle.std.proofs.Common.{ℕ, inl, inr, ⊎_elim}
use Rattle.dfr_folder.specs.Directory.{Content, Elapses, LeavesOnly}

module _ {D : Type 0} (may_leave : D → Content → Type 0) (left_since : D → D → Content → Type 0) where
  -- the first call of the directory
  pub begins : {moment : D → ℕ} (old new : D) (P : Content → Type 0) → Elapses moment may_leave left_since old new → ((c : Content) → may_leave new c → P c) → LeavesOnly may_leave left_since old new P
  begins old new P time here = record {
    passing = λ start c left. ⊎_elim (λ l. inl l) (λ now. inr (here c now)) (time.nothing_else start c left);
    after = here;
  }

  -- a call of the directory after others
  pub goes_on : {moment : D → ℕ} (old mid new : D) (P : Content → Type 0) → LeavesOnly may_leave left_since old mid P → Elapses moment may_leave left_since mid new → ((c : Content) → may_leave new c → P c)
      → LeavesOnly may_leave left_since old new P
  goes_on old mid new P so_far time here = record {
    passing = λ start c left. ⊎_elim (so_far.passing start c) (λ now. inr (here c now)) (time.nothing_else start c left);
    after = here;
  }

  -- a weaker property
  pub weaker : (old new : D) (P Q : Content → Type 0) → LeavesOnly may_leave left_since old new P → ((c : Content) → P c → Q c) → LeavesOnly may_leave left_since old new Q
  weaker old new P Q moments implies = record {
    passing = λ start c left. ⊎_elim (λ l. inl l) (λ p. inr (implies c p)) (moments.passing start c left);
    after = λ c left. implies c (moments.after c left);
  }

  -- a run of calls after others
  pub joined : (old mid new : D) (P Q : Content → Type 0) → LeavesOnly may_leave left_since old mid P → LeavesOnly may_leave left_since mid new Q → ((c : Content) → Q c → P c)
      → LeavesOnly may_leave left_since old new P
  joined old mid new P Q first second implies = record {
    passing = λ start c left. ⊎_elim (first.passing start c) (λ q. inr (implies c q)) (second.passing start c left);
    after = λ c left. implies c (second.after c left);
  }
