-- Each listed master key opens every key.
use Rattle.std.proofs.Common.{◌≡◌, ℕ, ◌⊎◌, inl, inr, List, [], ◌∷◌, map, reverse, sym, ◌∙◌, ap, subst, arith}
use Rattle.std.specs.Prelude.{Contains}
use Rattle.std.specs.List.{AllZip}
use Rattle.std.proofs.lemmas.List.Sorted.{Contains-permutation, IsPermutation-reverse, IsPermutation-sym}
use Rattle.iprop_truths.proofs.Members.{contains_cases, contains_first, contains_more}
use Rattle.kdb_base.specs.Key.{Key}
use Rattle.kdb_base.specs.declared.versions.Master.{Master}
use Rattle.kdb_histories.specs.Histories.{IsFolded, all_seen}
use Rattle.kdb_histories.specs.Seen.{Seen, seen}
use Rattle.kdb_histories.specs.Stages.{ShowsAt, Stage, fold}
use Rattle.kdb_places.specs.Places.{Place}
use Rattle.kdb_plain.specs.declared.states.State.{State}
use Rattle.kdb_worlds.specs.Lawful.{IsReplicaOf}
use Rattle.kdb_worlds.specs.Worlds.{World}
use Rattle.master_keys.proofs.Chains.{chain_opens}
use Rattle.master_keys.specs.Chain.{HasVersion, IsChain, IsKeyOf, Lists}
use Rattle.master_keys.specs.First.{master_name}
use Rattle.princ_keys.specs.declared.keys.KeyItem.{KeyItem}
use Rattle.princ_record.specs.declared.princs.Princ.{Princ}
use Rattle.row_keys.specs.Lookups.{record_named}
use Rattle.world_laws.specs.Opened.{IsOpenedByEach, IsReplicaOpened}

-- ---- versions

named_by : (newest : Key) (k : KeyItem) (items : List KeyItem) (m : Master) (ms : List Master) (version : ℕ)
    → IsKeyOf newest k m
    → (Contains (map (λ (x : KeyItem). x.kvno) items) version → (key : Key) × Lists ms version key)
    → (k.kvno ≡ version) ⊎ Contains (map (λ (x : KeyItem). x.kvno) items) version
    → (key : Key) × Lists (m ∷ ms) version key
named_by newest k items m ms version is others (inl here) =
    (m.key, subst (λ (v : ℕ). Lists (m ∷ ms) v m.key) (sym is.version ∙ here) (contains_first m ms))
named_by newest k items m ms version is others (inr there) =
    let rest = others there in
    (rest.0, contains_more m ms (record { version = version; key = rest.0 }) rest.1)

-- each version of the items has its master key
named : (newest : Key) (items : List KeyItem) (ms : List Master) (version : ℕ) → AllZip (IsKeyOf newest) items ms
    → Contains (map (λ (x : KeyItem). x.kvno) items) version → (key : Key) × Lists ms version key
named newest [] ms version zip there = absurd (omega (arith, there.1))
named newest (k ∷ items) [] version zip there = absurd zip
named newest (k ∷ items) (m ∷ ms) version zip there =
    named_by newest k items m ms version zip.0 (λ rest. named newest items ms version zip.1 rest)
    (contains_cases k.kvno (map (λ (x : KeyItem). x.kvno) items) version there)

has_key : (own : Princ) (masters : List Master) → IsChain own masters → (version : ℕ) → HasVersion own.keys version
    → (key : Key) × Lists masters version key
has_key own masters chain version there =
    let back = named chain.newest own.keys (reverse masters) version chain.under.keys there in
    let same = IsPermutation-sym masters (reverse masters) (IsPermutation-reverse masters) in
    (back.0, Contains-permutation (reverse masters) masters (record { version = version; key = back.0 }) same back.1)

-- ---- places

pub opened : (p : Place) (s : State) → ShowsAt p s → IsOpenedByEach p s
opened p s h = record {
  shows = h;
  own = h.shows.entry;
  there = ap (λ (realm : List ℕ). record_named (master_name realm) p.rows.princs) (sym h.realm) ∙ h.shows.there;
  listed = λ version there. has_key h.shows.entry s.masters h.shows.chain.chain version there;
  each = λ version key listed. chain_opens h.shows.entry s.masters h.shows.chain.chain version key listed;
}

pub replica_opened : (w : World) (p : Place) → IsReplicaOf w p → IsReplicaOpened w p
replica_opened w p copy = record { copy = copy; opened = opened p copy.at.state copy.shows }

-- each place of a story shows what all deeds up to it come to
shown_by : (t : Stage) (older : List Stage) (a : Seen) → IsFolded (t ∷ older)
    → (Contains (all_seen older) a → ShowsAt a.place a.state)
    → (seen t.place (fold (t ∷ older)) ≡ a) ⊎ Contains (all_seen older) a → ShowsAt a.place a.state
shown_by t older a h others (inl is) = subst (λ (x : Seen). ShowsAt x.place x.state) is h.0
shown_by t older a h others (inr there) = others there

shown_at : (stages : List Stage) (a : Seen) → IsFolded stages → Contains (all_seen stages) a → ShowsAt a.place a.state
shown_at [] a h there = absurd (omega (arith, there.1))
shown_at (t ∷ older) a h there =
    shown_by t older a h (λ rest. shown_at older a h.1 rest)
    (contains_cases (seen t.place (fold (t ∷ older))) (all_seen older) a there)

pub place_opened : (stages : List Stage) (a : Seen) → IsFolded stages → Contains (all_seen stages) a
    → IsOpenedByEach a.place a.state
place_opened stages a h there = opened a.place a.state (shown_at stages a h there)
