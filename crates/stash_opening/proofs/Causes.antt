-- The causes of refusals exclude each other.
use Rattle.std.proofs.Common.{◌≡◌, ℕ, ◌<◌, List, [], ◌∷◌, get_or, length, Option}
use Rattle.std.proofs.Common.{Some, None, refl, sym, ap, subst, ◌∙◌, inl, inr, arith}
use Rattle.std.specs.Prelude.{Result, Ok, Err, IfOk}
use Rattle.std.specs.List.{All}
use Rattle.std.proofs.lemmas.List.Elements.{All-contains, Contains-get_or}
use Rattle.kdb_base.specs.declared.outcomes.Halt.{Halt}
use Rattle.kdb_base.specs.declared.outcomes.Halt.TheVariants.{MemoryOut}
use Rattle.kdb_base.specs.declared.outcomes.Refusal.{Refusal}
use Rattle.kdb_base.specs.declared.outcomes.Refusal.TheVariants.{Damaged, UnknownMaster}
use Rattle.kdb_base.specs.declared.outcomes.Stop.{Stop}
use Rattle.kdb_base.specs.declared.outcomes.Stop.TheVariants as stop
use Rattle.kdb_base.specs.declared.versions.Master.{Master}
use Rattle.master_keys.specs.Chain.{Opens}
use Rattle.princ_keys.specs.declared.keys.KeyItem.{KeyItem}
use Rattle.princ_record.specs.declared.princs.Princ.{Princ}
use Rattle.princ_rows.specs.Rows.{RowLists}
use Rattle.row_keys.specs.Sound.{AreSound, IsFirstUnsound, IsSound, Judged, LacksOwn}
use Rattle.stash_file.specs.Stashes.{has_master_key}
use Rattle.stash_file.specs.declared.keys.StashKey.{StashKey}
use Rattle.stash_file.proofs.Uniques.{not_bad, one_list, one_place}
use Rattle.stash_opening.specs.Answers.{Gives, Refuses}
use Rattle.stash_opening.specs.Finding.{HasKeys, IsBroken, IsDamage, IsKeyCause}
use Rattle.stash_opening.specs.Finding.{IsStashCause, KeysOpen, StashOpens, first_listed, keys_in}

-- ---- one stash

pub one_keys : (stash : Option (List ℕ)) (a b : List StashKey) → HasKeys stash a → HasKeys stash b → a ≡ b
one_keys None a b h k = h ∙ sym k
one_keys (Some text) a b h k = one_list text a b h k

not_broken : (stash : Option (List ℕ)) (keys : List StashKey) (place : ℕ) → HasKeys stash keys
    → IsBroken stash place → ⊥
not_broken None keys place h bad = bad
not_broken (Some text) keys place h bad = not_bad text keys place h bad

one_broken : (stash : Option (List ℕ)) (a b : ℕ) → IsBroken stash a → IsBroken stash b → a ≡ b
one_broken None a b h k = absurd h
one_broken (Some text) a b h k = one_place has_master_key text a b h k

-- ---- one choice

pub none_of_none : (items : List KeyItem) (keys : List StashKey) (m : Master) → keys ≡ []
    → first_listed items keys ≡ Some m → ⊥
unfolding first_listed
none_of_none items [] m e h = absurd cc
none_of_none items (k ∷ keys) m e h = absurd cc

some_of_none : (o : Option Master) (m : Master) → o ≡ None → o ≡ Some m → ⊥
some_of_none o m a b = let missing = sym a ∙ b in absurd cc

no_first : (keys : List StashKey) (first : StashKey) (others : List StashKey) → keys ≡ [] → keys ≡ first ∷ others → ⊥
no_first keys first others a b = let missing = sym a ∙ b in absurd cc

same_first : (a b : StashKey) (xs ys : List StashKey) → a ∷ xs ≡ b ∷ ys → a ≡ b
same_first a b xs ys e = cc

same_own : (a b : Princ) → ◌≡◌ {A = Option Princ} (Some a) (Some b) → a ≡ b
same_own a b e = cc

same_master : (a b : Master) → ◌≡◌ {A = Option Master} (Some a) (Some b) → a ≡ b
same_master a b e = cc

module _ (entry : Option Princ) (keys : List StashKey) where
  one_key_cause : (a b : Refusal) → IsKeyCause entry keys a → IsKeyCause entry keys b → a ≡ b
  one_key_cause a b (inl f) (inl g) = f.why_is ∙ sym g.why_is
  one_key_cause a b (inl f) (inr (inl g)) = absurd (no_first keys g.first g.others f.none g.keys_are)
  one_key_cause a b (inl f) (inr (inr g)) = absurd (none_of_none (keys_in entry) keys g.found f.none g.first)
  one_key_cause a b (inr (inl f)) (inl g) = absurd (no_first keys f.first f.others g.none f.keys_are)
  one_key_cause a b (inr (inl f)) (inr (inl g)) =
      f.why_is ∙ ap (λ (k : StashKey). UnknownMaster k.version)
      (same_first f.first g.first f.others g.others (sym f.keys_are ∙ g.keys_are)) ∙ sym
      g.why_is
  one_key_cause a b (inr (inl f)) (inr (inr g)) =
      absurd (some_of_none (first_listed (keys_in entry) keys) g.found f.none g.first)
  one_key_cause a b (inr (inr f)) (inl g) = absurd (none_of_none (keys_in entry) keys f.found g.none f.first)
  one_key_cause a b (inr (inr f)) (inr (inl g)) =
      absurd (some_of_none (first_listed (keys_in entry) keys) f.found g.none f.first)
  one_key_cause a b (inr (inr f)) (inr (inr g)) = f.why_is ∙ sym g.why_is

  keys_not_refused : (masters : List Master) (why : Refusal) → KeysOpen entry keys masters
      → IsKeyCause entry keys why → ⊥
  keys_not_refused masters why o (inl f) = none_of_none (keys_in entry) keys o.found f.none o.first
  keys_not_refused masters why o (inr (inl f)) = some_of_none (first_listed (keys_in entry) keys) o.found f.none o.first
  keys_not_refused masters why o (inr (inr f)) =
      let own = same_own o.own f.own (sym o.there ∙ f.there) in
      let found = same_master o.found f.found (sym o.first ∙ f.first) in
      f.wrong masters (moved o.own f.own o.found f.found own found o.opens)
    where
      moved : (a b : Princ) (m n : Master) → a ≡ b → m ≡ n → Opens a m.version m.key masters
          → Opens b n.version n.key masters
      moved a b m n e f o = subst (λ (x : Master). Opens b x.version x.key masters) f
          (subst (λ (p : Princ). Opens p m.version m.key masters) e o)

-- ---- the stash

module _ (stash : Option (List ℕ)) (file : ℕ) (entry : Option Princ) where
  pub one_stash_cause : (a b : Refusal) → IsStashCause stash file entry a → IsStashCause stash file entry b → a ≡ b
  one_stash_cause a b (inl f) (inl g) =
      f.why_is ∙ ap (λ (n : ℕ). Damaged file n) (one_broken stash f.place g.place f.broken g.broken) ∙ sym g.why_is
  one_stash_cause a b (inl f) (inr g) = absurd (not_broken stash g.keys f.place g.spelled f.broken)
  one_stash_cause a b (inr f) (inl g) = absurd (not_broken stash f.keys g.place f.spelled g.broken)
  one_stash_cause a b (inr f) (inr g) =
      one_key_cause entry f.keys a b f.cause
      (subst (λ (ks : List StashKey). IsKeyCause entry ks b) (one_keys stash g.keys f.keys g.spelled f.spelled) g.cause)

  pub stash_not_refused : (masters : List Master) (why : Refusal) → StashOpens stash entry masters
      → IsStashCause stash file entry why → ⊥
  stash_not_refused masters why o (inl f) = not_broken stash o.keys f.place o.spelled f.broken
  stash_not_refused masters why o (inr f) =
      keys_not_refused entry o.keys masters why o.opened
      (subst (λ (ks : List StashKey). IsKeyCause entry ks why)
      (one_keys stash f.keys o.keys f.spelled o.spelled) f.cause)

-- ---- answers

-- where each refusal has a cause, and there is one, it is told
pub told_why : {A : Type 0} (Cause : Refusal → Type 0) (result : Result A Stop) (why : Refusal)
    → ((a b : Refusal) → Cause a → Cause b → a ≡ b)
    → ((x : A) → result ≡ Ok x → ⊥)
    → ((other : Refusal) → result ≡ Err (stop.Refused other) → Cause other)
    → ((halt : Halt) → result ≡ Err (stop.Halt halt) → halt ≡ MemoryOut)
    → Cause why → Refuses result why
told_why Cause (Ok x) why one never refused halted cause = absurd (never x refl)
told_why Cause (Err (stop.Refused other)) why one never refused halted cause = one other why (refused other refl) cause
told_why Cause (Err (stop.Halt halt)) why one never refused halted cause = halted halt refl

pub same_stop : {A : Type 0} (a b : Stop) → ◌≡◌ {A = Result A Stop} (Err a) (Err b) → a ≡ b
same_stop a b e = cc

pub no_value : {A : Type 0} (s : Stop) (x : A) → ◌≡◌ {A = Result A Stop} (Err s) (Ok x) → ⊥
no_value s x e = cc

pub same_why : {A : Type 0} (a b : Refusal)
    → ◌≡◌ {A = Result A Stop} (Err (stop.Refused a)) (Err (stop.Refused b)) → b ≡ a
same_why a b e = cc

pub at_ok : {A : Type 0} (P : A → Type 0) (result : Result A Stop) (x : A) → IfOk result P → result ≡ Ok x → P x
at_ok {A = A} P result x h e = subst (λ (r : Result A Stop). IfOk r P) e h

-- ---- steps of an opening

-- what cannot be read is no stash that opens
pub damage_gives : (stash : Option (List ℕ)) (file : ℕ) (entry : Option Princ) (why_not : Stop) (masters : List Master)
    → ((why : Refusal) → why_not ≡ stop.Refused why → IsDamage stash file why)
    → ((halt : Halt) → why_not ≡ stop.Halt halt → halt ≡ MemoryOut) → StashOpens stash entry masters
    → Gives (Err why_not) masters
damage_gives stash file entry (stop.Refused why) masters refused halted o = absurd
    (stash_not_refused stash file entry masters why o (inl (refused why refl)))
damage_gives stash file entry (stop.Halt halt) masters refused halted o = halted halt refl

pub opened_by : (stash : Option (List ℕ)) (entry : Option Princ) (keys : List StashKey)
    (result : Result (List Master) Stop) → HasKeys stash keys
    → IfOk result (λ masters. KeysOpen entry keys masters)
    → IfOk result (λ masters. StashOpens stash entry masters)
opened_by stash entry keys (Ok masters) spelled o = record { keys = keys; spelled = spelled; opened = o }
opened_by stash entry keys (Err why_not) spelled o = tt

pub keys_open : (stash : Option (List ℕ)) (entry : Option Princ) (keys : List StashKey) (masters : List Master)
    → HasKeys stash keys
    → StashOpens stash entry masters → KeysOpen entry keys masters
keys_open stash entry keys masters spelled o = subst (λ (ks : List StashKey). KeysOpen entry ks masters)
    (one_keys stash o.keys keys o.spelled spelled) o.opened

-- what gives no master keys refuses too where memory runs out
pub gives_refuses : (why_not : Stop) (masters : List Master) (why : Refusal) → Gives (Err why_not) masters
    → Refuses {A = List Master} (Err why_not) why
gives_refuses (stop.Refused other) masters why h = absurd h
gives_refuses (stop.Halt halt) masters why h = h

-- ---- rows that are not sound

no_fault : (F : Princ → Type 0) (princs : List Princ) (at : ℕ) → at < length princs
    → ((d : Princ) → F (get_or princs at d) → ⊥) → All F princs → ⊥
no_fault F [] at lt never all = absurd (omega arith)
no_fault F (p ∷ princs) at lt never all =
    never p (All-contains F (p ∷ princs) (get_or (p ∷ princs) at p) all (Contains-get_or (p ∷ princs) at p lt))

pub first_is_unsound : (j : Judged) (rows : RowLists) (at : ℕ) → IsFirstUnsound j rows at → AreSound j rows → ⊥
first_is_unsound j rows at f s = no_fault (IsSound j rows) rows.princs at f.in_range f.here s.each

pub lack_is_unsound : (j : Judged) (rows : RowLists) → LacksOwn j rows → AreSound j rows → ⊥
lack_is_unsound j rows f s = f.missing s.own
