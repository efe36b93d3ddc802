-- What judging rows finds.
use Rattle.std.proofs.Common.{◌≡◌, ◌≢◌, ℕ, Bool, true, false, List, [], ◌∷◌, length, get_or}
use Rattle.std.proofs.Common.{Option, Some, None, Result, Ok, refl, sym, ap, subst, ◌∙◌}
use Rattle.std.specs.Prelude.{is_some, nat_eq}
use Rattle.std.specs.List.{All, AllByRecursion, list_all}
use Rattle.std.proofs.lemmas.List.Elements.{recursion_from_All}
use Rattle.std.proofs.lemmas.List.Sums.{list_all-from_AllPass}
use Rattle.kdb_base.specs.Key.{Key}
use Rattle.kdb_base.specs.declared.outcomes.MemoryOut.{MemoryOut}
use Rattle.kdb_base.specs.declared.versions.Activation.{Activation}
use Rattle.kdb_base.specs.declared.versions.Master.{Master}
use Rattle.princ_record.specs.declared.facts.ChainPart.{ChainPart}
use Rattle.princ_keys.specs.declared.keys.KeyItem.{KeyItem}
use Rattle.princ_record.specs.declared.princs.Princ.{Princ}
use Rattle.princ_keys.specs.declared.remembered.OldKey.{OldKey}
use Rattle.princ_keys.specs.declared.remembered.OldSet.{OldSet}
use Rattle.master_keys.specs.Rewrapping.{HoldsOne}
use Rattle.master_keys.specs.Wrapping.{Unwraps}
use Rattle.kdb_plain.specs.States.{IsListed, history_name, master_of}
use Rattle.row_keys.specs.Judging.{IsHistoryOf}
use Rattle.row_keys.specs.Lookups.{record_named}
use Rattle.row_keys.specs.Sound.{AreHeldUnder, AreRemembered, HasHistoryKey, HasOneKey}
use Rattle.row_keys.specs.Sound.{HoldsOldOne, IsRemembered, IsSoundChain, OpensKeys, OpensOld}
use Rattle.row_keys.specs.declared.sound.History.{History}
use Rattle.row_keys.specs.declared.sound.History.TheVariants.{Closed, Opened}

abbrev is_listed : List Master → Activation → Bool
is_listed masters a = is_some (master_of masters a.version)

pub same_part : (a b : ChainPart) → ◌≡◌ {A = Option ChainPart} (Some a) (Some b) → a ≡ b
same_part a b e = cc

pub not_listed : (masters : List Master) (secs : ℕ) (p : Princ) (part : ChainPart) (list : List Activation) (r : Bool)
    → p.chain ≡ Some part → list ≡ part.activations → r ≡ list_all (is_listed masters) list → r ≡ false
    → IsSoundChain masters secs p → ⊥
not_listed masters secs p part list r there is test fails s =
    let same : s.part ≡ part = same_part s.part part (sym s.part_is ∙ there) in
    let all : All (λ (a : Activation). IsListed masters a.version) list =
    subst (λ (l : List Activation). All (λ (a : Activation). IsListed masters a.version) l)
    (ap (λ (c : ChainPart). c.activations) same ∙ sym is) s.listed in
    let yes : list_all (is_listed masters) list ≡ true = list_all-from_AllPass (is_listed masters) list all in
    absurd cc

-- ---- one key

same_item : (a b : KeyItem) (keys : List KeyItem) → keys ≡ a ∷ [] → b ≡ get_or keys 0 b → a ≡ b
same_item a b keys one is = sym (is ∙ ap (λ (ks : List KeyItem). get_or ks 0 b) one)

pub same_key : (a b : Key) → ◌≡◌ {A = Option Key} (Some a) (Some b) → a ≡ b
same_key a b e = cc

-- the key of a record with one key is in the blob that is opened
pub one_opens : (masters : List Master) (p : Princ) (key : Key) (keys : List KeyItem) (item : KeyItem)
    (master : Key) (blob : List ℕ) → keys ≡ p.keys → item ≡ get_or keys 0 item → master_of masters p.mkvno ≡ Some master
    → blob ≡ item.wrapped
    → HasOneKey masters p key → Unwraps master item.etype blob key
one_opens masters p key keys item master blob are is named blob_is h =
    let same : h.item ≡ item = same_item h.item item keys (are ∙ h.one) is in
    let under : h.master ≡ master = same_key h.master master (sym h.named ∙ named) in
    subst (λ (b : List ℕ). Unwraps master item.etype b key) (sym blob_is)
    (subst (λ (i : KeyItem). Unwraps master i.etype i.wrapped key) same
    (subst (λ (m : Key). Unwraps m h.item.etype h.item.wrapped key) under h.holds))

-- ---- remembered keys

same_bool : (a b : Bool) → ◌≡◌ {A = Result Bool MemoryOut} (Ok a) (Ok b) → a ≡ b
same_bool a b e = cc

none_remembered : (masters : List Master) (realm : List ℕ) (princs : List Princ)
    → ((key : Key) → HasHistoryKey masters realm princs key → ⊥) → (keys : List OldKey)
    → AllByRecursion (IsRemembered masters realm princs) keys → nat_eq (length keys) 0 ≡ true
none_remembered masters realm princs none [] h = refl
none_remembered masters realm princs none (k ∷ keys) h = absurd (none h.0.history h.0.history_is)

abbrev is_empty : OldSet → Bool
is_empty s = nat_eq (length s.keys) 0

pub closed_old : (masters : List Master) (realm : List ℕ) (princs : List Princ) (history : History) (sets : List OldSet)
    (r : Bool) → history ≡ Closed → IsHistoryOf masters realm princs history → r ≡ list_all is_empty sets
    → ◌≡◌ {A = Result Bool MemoryOut} (Ok r) (Ok false) → OpensOld masters realm princs sets → ⊥
closed_old masters realm princs history sets r closed is test fails opens =
    let h : IsHistoryOf masters realm princs Closed = subst (IsHistoryOf masters realm princs) closed is in
    let all : AreRemembered masters realm princs sets = opens h.0 in
    let yes : list_all is_empty sets ≡ true =
    list_all-from_AllPass is_empty sets (λ i d lt. none_remembered masters realm princs h.1 (get_or sets i d).keys
    (recursion_from_All (IsRemembered masters realm princs) (get_or sets i d).keys (all i d lt))) in
    let same = same_bool r false fails in
    absurd cc

pub some_there : {A : Type 0} (o : Option A) (a : A) → o ≡ Some a → o ≢ None
some_there o a e none = let no_value = sym e ∙ none in absurd cc

pub opened_old : (masters : List Master) (realm : List ℕ) (princs : List Princ) (history : History) (sets : List OldSet)
    (key : Key) → history ≡ Opened key → IsHistoryOf masters realm princs history → OpensOld masters realm princs sets
    → All (AreHeldUnder key) sets
opened_old masters realm princs history sets key opened is opens =
    let h : IsHistoryOf masters realm princs (Opened key) = subst (IsHistoryOf masters realm princs) opened is in
    let all : AreRemembered masters realm princs sets =
    opens (some_there (record_named (history_name realm) princs) h.0.entry h.0.there) in
    λ i d lt j e within.
    let r = all i d lt j e within in
    let same : key ≡ r.history = h.1 r.history r.history_is in
    subst (λ (k : Key). HoldsOldOne k (get_or (get_or sets i d).keys j e)) (sym same) r.held

-- ---- keys

pub keys_under : (masters : List Master) (p : Princ) (master : Key) → master_of masters p.mkvno ≡ Some master
    → OpensKeys masters p → All (HoldsOne master) p.keys
keys_under masters p master named o =
    subst (λ (m : Key). All (HoldsOne m) p.keys) (same_key o.master master (sym o.named ∙ named)) o.keys

-- ---- what is found of kadmin/history

pub same_entry : (a b : Princ) → ◌≡◌ {A = Option Princ} (Some a) (Some b) → a ≡ b
same_entry a b e = cc

module _ (masters : List Master) (realm : List ℕ) (princs : List Princ) (name : List ℕ) (entry : Princ)
    (named : name ≡ history_name realm) (found : record_named name princs ≡ Some entry) where
  found_own : record_named (history_name realm) princs ≡ Some entry
  found_own = ap (λ (n : List ℕ). record_named n princs) (sym named) ∙ found

  one_of : (key : Key) → HasHistoryKey masters realm princs key → HasOneKey masters entry key
  one_of key h =
      subst (λ (p : Princ). HasOneKey masters p key) (same_entry h.entry entry (sym h.there ∙ found_own)) h.has

  pub history_is_one : (key made : Key) → made ≡ key → HasOneKey masters entry key
      → ((other : Key) → HasOneKey masters entry other → ◌≡◌ {A = Option Key} (Some key) (Some other))
      → HasHistoryKey masters realm princs made
      × ((other : Key) → HasHistoryKey masters realm princs other → made ≡ other)
  history_is_one key made is has only = (
    record { entry = entry; there = found_own; has = subst (λ (k : Key). HasOneKey masters entry k) (sym is) has },
    λ other h. is ∙ same_key key other (only other (one_of other h)),
  )

  pub history_is_none : ((other : Key) → HasOneKey masters entry other → ◌≡◌ {A = Option Key} None (Some other))
      → (record_named (history_name realm) princs ≢ None) × ((key : Key) → HasHistoryKey masters realm princs key → ⊥)
  history_is_none only = (
    some_there (record_named (history_name realm) princs) entry found_own,
    λ key h. no_key_there key (only key (one_of key h)),
  )
    where
      no_key_there : (key : Key) → ◌≡◌ {A = Option Key} None (Some key) → ⊥
      no_key_there key e = absurd cc

pub history_opened : (masters : List Master) (realm : List ℕ) (princs : List Princ) (name : List ℕ) (entry : Princ)
    (key made : Key) → name ≡ history_name realm → record_named name princs ≡ Some entry → made ≡ key
    → HasOneKey masters entry key
    → ((other : Key) → HasOneKey masters entry other → ◌≡◌ {A = Option Key} (Some key) (Some other))
    → HasHistoryKey masters realm princs made
    × ((other : Key) → HasHistoryKey masters realm princs other → made ≡ other)
history_opened masters realm princs name entry key made named found is has only =
    history_is_one masters realm princs name entry named found key made is has only

pub history_closed : (masters : List Master) (realm : List ℕ) (princs : List Princ) (name : List ℕ) (entry : Princ)
    → name ≡ history_name realm → record_named name princs ≡ Some entry
    → ((other : Key) → HasOneKey masters entry other → ◌≡◌ {A = Option Key} None (Some other))
    → (record_named (history_name realm) princs ≢ None) × ((key : Key) → HasHistoryKey masters realm princs key → ⊥)
history_closed masters realm princs name entry named found only =
    history_is_none masters realm princs name entry named found only
