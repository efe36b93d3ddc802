-- Keys that were wrapped anew, against those that they were.
use Rattle.std.proofs.Common.{rules, ℕ, zero, suc, false, arith, ◌≡◌, ◌≢◌, ◌+◌, ◌<◌, ◌≤◌, List}
use Rattle.std.proofs.Common.{[], ◌∷◌, length, Option, Some, None, refl, sym, ap, subst, ◌∙◌}
use Rattle.std.specs.List.{AllZip}
use Rattle.kdb_base.specs.Key.{Key}
use Rattle.master_keys.specs.Rewrapping.{Holds, HoldsOne, IsRewrapped, with_key, with_keys}
use Rattle.princ_keys.specs.declared.keys.KeyItem.{KeyItem}
use Rattle.kdb_base.specs.Limits.{most_keys}
use Rattle.kdb_base.specs.declared.versions.Master.{Master}
use Rattle.kdb_model.specs.Rekeying.{Taking, Work}
use Rattle.kdb_plain.specs.States.{master_of}
use Rattle.princ_record.specs.Princs.{IsPrinc}
use Rattle.princ_record.specs.declared.princs.Princ.{Princ}
use Rattle.std.specs.List.{All}
use Rattle.std.specs.Prelude.{is_none}
use Rattle.rekey_work.specs.Works.{IsOpenedBy, IsRewrappedItem, IsTaking, IsWork}

pub items_rewrapped : (old fresh : Key) (random : List ℕ) (place : ℕ) (items : List KeyItem) (plain : List Key)
    → AllZip (Holds old) items plain
    → AllZip (Holds fresh) (with_keys fresh random place items plain) plain
    → AllZip (IsRewrappedItem old fresh) items (with_keys fresh random place items plain)
unfolding with_keys with_key
items_rewrapped old fresh random place [] [] held made = tt
items_rewrapped old fresh random place [] (k ∷ keys) held made = absurd held
items_rewrapped old fresh random place (item ∷ items) [] held made = absurd held
items_rewrapped old fresh random place (item ∷ items) (k ∷ keys) held made = (
  record { kvno = refl; etype = refl; salt = refl; plain = k; opened = held.0; sealed = made.0 },
  items_rewrapped old fresh random (place + 1) items keys held.1 made.1,
)

-- what a wrapping anew gives is work
pub work_of : (t : Taking) (random : List ℕ) (made : Princ) → IsTaking t
    → IsRewrapped t.princ t.old t.version t.fresh random made → IsPrinc made
    → IsWork (record { taken = t; made = made })
work_of t random made taking r spelled =
    let keys : made.keys ≡ with_keys t.fresh random 0 t.princ.keys r.plain = ap (λ (p : Princ). p.keys) r.is in
    let items = items_rewrapped t.old t.fresh random 0 t.princ.keys r.plain r.held
    (subst (λ (ks : List KeyItem). AllZip (Holds t.fresh) ks r.plain) keys r.holds) in
    record {
      taken = taking;
      spelled = spelled;
      same = r.is ∙ ap (λ (ks : List KeyItem). record t.princ { mkvno = t.version; keys = ks }) (sym keys);
      keys = subst (λ (ks : List KeyItem). AllZip (IsRewrappedItem t.old t.fresh) t.princ.keys ks) (sym keys) items;
    }

some_is : {A : Type 0} (x y : A) → Some x ≡ Some y → x ≡ y
some_is x y e = cc

-- a record that is opened by the master key of its version, and another version
pub taking_of : (masters : List Master) (p : Princ) (version : ℕ) (old fresh : Key) → IsPrinc p → p.chain ≡ None
    → length p.keys ≤ most_keys → IsOpenedBy masters p
    → 0 < version → version ≢ p.mkvno → master_of masters p.mkvno ≡ Some old
    → IsTaking (record { princ = p; version = version; old = old; fresh = fresh })
taking_of masters p version old fresh spelled ordinary few opened numbered moves is =
    let same : opened.master ≡ old = some_is opened.master old (sym opened.listed ∙ is) in
    record {
      spelled = spelled;
      ordinary = ordinary;
      few = few;
      opens = subst (λ (k : Key). All (HoldsOne k) p.keys) same opened.opens;
      numbered = numbered;
      moves = moves;
    }

-- a record without keys is opened by any master key
pub bare_is_opened : (masters : List Master) (p : Princ) → length p.keys ≡ 0
    → is_none (master_of masters p.mkvno) ≡ false → IsOpenedBy masters p
bare_is_opened masters p none listed = by (master_of masters p.mkvno) refl listed
  where
    all : (m : Key) (keys : List KeyItem) → length keys ≡ 0 → All (HoldsOne m) keys
    all m [] e = search rules
    all m (k ∷ keys) e = absurd (omega arith)

    by : (found : Option Key) → master_of masters p.mkvno ≡ found → is_none found ≡ false → IsOpenedBy masters p
    by None is e = absurd cc
    by (Some m) is e = record { master = m; listed = is; opens = all m p.keys none }
