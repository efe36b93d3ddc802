-- A place whose stash begins with one of its master keys opens.
use Rattle.std.proofs.Common.{◌≡◌, ℕ, List, [], ◌∷◌, Option, Some, None, map, refl, sym, ap, subst, ◌∙◌, true, arith}
use Rattle.std.specs.Prelude.{reverse, nat_eq}
use Rattle.std.specs.List.{AllZip}
use Rattle.std.proofs.lemmas.List.{reverse-append}
use Rattle.std.proofs.lemmas.Bool.{eq-eqb}
use Rattle.std.proofs.lemmas.List.Elements.{All-contains, Contains-push}
use Rattle.kdb_base.specs.Key.{Key}
use Rattle.kdb_base.specs.declared.versions.Master.{Master}
use Rattle.kdb_histories.specs.Stages.{ShowsAt}
use Rattle.kdb_places.specs.Places.{Place, point_of}
use Rattle.kdb_base.specs.Moment.{Moment}
use Rattle.kdb_plain.specs.States.{IsValid}
use Rattle.kdb_plain.specs.declared.states.State.{State}
use Rattle.row_keys.specs.Shows.{Shows}
use Rattle.master_keys.proofs.Chains.{chain_opens}
use Rattle.master_keys.proofs.SideBySide.{zip_at, zip_length}
use Rattle.master_keys.specs.Chain.{IsChain, IsKeyOf, Lists}
use Rattle.master_keys.specs.First.{master_name}
use Rattle.primary_core.specs.Opening.{OpensAt}
use Rattle.princ_keys.specs.declared.keys.KeyItem.{KeyItem}
use Rattle.princ_record.specs.declared.princs.Princ.{Princ}
use Rattle.princ_rows.specs.Rows.{RowLists}
use Rattle.row_keys.proofs.SoundRows.{record_there}
use Rattle.row_keys.specs.Lookups.{record_named}
use Rattle.row_keys.specs.Sound.{AreSound, IsSound, Judged, judged}
use Rattle.stash_file.specs.Stashes.{IsStash}
use Rattle.stash_file.specs.Written.{stash_keys}
use Rattle.stash_file.specs.declared.keys.StashKey.{StashKey}
use Rattle.stash_opening.specs.Finding.{StashOpens, first_listed, keys_in, lists, own_record}

-- K/M's record has the chain of these master keys
record HasChain (entry : Option Princ) (masters : List Master) : Type 0 where
  own : Princ
  there : entry ≡ Some own
  chain : IsChain own masters

own_chain : (j : Judged) (rows : RowLists) → AreSound j rows → (entry : Option Princ)
    → record_named (master_name j.realm) rows.princs ≡ entry → HasChain entry j.masters
own_chain j rows sound None is = absurd (sound.own.master is)
own_chain j rows sound (Some own) is =
    let there = record_there (master_name j.realm) rows.princs own is in
    record {
      own = own;
      there = refl;
      chain = ((All-contains (IsSound j rows) rows.princs own sound.each there.0).own.chain there.1).chain;
    }

-- a key of the stash that is one of the master keys, and is the first that K/M lists, opens all
opens_by : (entry : Option Princ) (masters : List Master) (text : List ℕ) (keys : List StashKey) (found : Master)
    → HasChain entry masters → IsStash text keys
    → first_listed (keys_in entry) keys ≡ Some found → Lists masters found.version found.key
    → StashOpens (Some text) entry masters
opens_by entry masters text keys found has spelled first listed = record {
  keys = keys;
  spelled = spelled;
  opened = record {
    found = found;
    first = first;
    own = has.own;
    there = has.there;
    opens = chain_opens has.own masters has.chain found.version found.key listed;
  };
}

-- the newest version is listed by the first key of K/M's record
first_kvno : (newest : Key) (items : List KeyItem) (m : Master) (back : List Master)
    → AllZip (IsKeyOf newest) items (m ∷ back) → lists items m.version ≡ true
unfolding lists
first_kvno newest [] m back zip = absurd (omega (arith, zip_length (IsKeyOf newest) [] (m ∷ back) zip))
first_kvno newest (k ∷ items) m back zip =
    let here : IsKeyOf newest k m = zip_at (IsKeyOf newest) (k ∷ items) (m ∷ back) 0 k m zip (omega arith) in
    let same : nat_eq k.kvno m.version ≡ true = eq-eqb k.kvno m.version here.version in
    rw same refl

listed_first : (items : List KeyItem) (m : Master) (back : List Master) → lists items m.version ≡ true
    → first_listed items (map (λ (x : Master). record { version = x.version; key = x.key }) (m ∷ back)) ≡ Some m
unfolding first_listed
listed_first items m back is = rw is refl

-- where the stash has all master keys, the greatest version first, it is the newest
newest_listed : (own : Princ) (masters : List Master) (h : IsChain own masters)
    → first_listed own.keys (stash_keys masters) ≡ Some (record { version = own.mkvno; key = h.newest })
unfolding stash_keys
newest_listed own masters h =
    let newest : Master = record { version = own.mkvno; key = h.newest } in
    let back : reverse masters ≡ newest ∷ reverse h.under.older =
    ap reverse h.under.masters_are ∙ reverse-append h.under.older (newest ∷ []) in
    let zip = subst (λ (ms : List Master). AllZip (IsKeyOf h.newest) own.keys ms) back h.under.keys in
    rw back (listed_first own.keys newest (reverse h.under.older)
    (first_kvno h.newest own.keys newest (reverse h.under.older) zip))

-- the state's master keys are sound for the rows of its place
sound_at : (p : Place) (s : State)
    → ((rows : RowLists) (t : State) (time : Moment) → Shows rows t → IsValid time t
    → AreSound (judged t.masters t.realm time.secs) rows)
    → ShowsAt p s → AreSound (judged s.masters p.realm (point_of p).time.secs) p.rows
sound_at p s law at = subst (λ (realm : List ℕ). AreSound (judged s.masters realm (point_of p).time.secs) p.rows)
    at.realm (law p.rows s (point_of p).time at.shows at.valid)

-- one of the master keys is the first of the stash that K/M lists
pub key_opens : (p : Place) (s : State) (text : List ℕ) (keys : List StashKey) (found : Master)
    → ((rows : RowLists) (t : State) (time : Moment) → Shows rows t → IsValid time t
    → AreSound (judged t.masters t.realm time.secs) rows)
    → ShowsAt p s → p.stash ≡ Some text → IsStash text keys
    → first_listed (keys_in (own_record p.realm p.rows)) keys ≡ Some found → Lists s.masters found.version found.key
    → OpensAt p s.masters
key_opens p s text keys found law at is spelled first listed =
    let sound = sound_at p s law at in
    record {
      opened = subst (λ (stash : Option (List ℕ)). StashOpens stash (own_record p.realm p.rows) s.masters) (sym is)
          (opens_by (own_record p.realm p.rows) s.masters text keys found
          (own_chain (judged s.masters p.realm (point_of p).time.secs) p.rows sound (own_record p.realm p.rows) refl)
          spelled first listed);
      sound = sound;
    }

-- the stash has all of them
pub stash_opens : (p : Place) (s : State) (text : List ℕ)
    → ((rows : RowLists) (t : State) (time : Moment) → Shows rows t → IsValid time t
    → AreSound (judged t.masters t.realm time.secs) rows)
    → ShowsAt p s → p.stash ≡ Some text → IsStash text (stash_keys s.masters) → OpensAt p s.masters
stash_opens p s text law at is spelled =
    let sound = sound_at p s law at in
    let has =
    own_chain (judged s.masters p.realm (point_of p).time.secs) p.rows sound (own_record p.realm p.rows) refl in
    let newest : Master = record { version = has.own.mkvno; key = has.chain.newest } in
    let first = ap (λ (e : Option Princ). first_listed (keys_in e) (stash_keys s.masters)) has.there
    ∙ newest_listed has.own s.masters has.chain in
    let listed = subst (λ (ms : List Master). Lists ms newest.version newest.key) (sym has.chain.under.masters_are)
    (Contains-push has.chain.under.older newest) in
    key_opens p s text (stash_keys s.masters) newest law at is spelled first listed
