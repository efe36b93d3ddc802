-- A record whose keys were opened.
use Rattle.std.proofs.Common.{◌≡◌, List, [], ◌∷◌, Some, subst}
use Rattle.std.specs.List.{All, AllZip}
use Rattle.std.proofs.lemmas.List.Elements.{All-cons, All-nil}
use Rattle.kdb_base.specs.Key.{Key}
use Rattle.kdb_base.specs.declared.versions.Master.{Master}
use Rattle.kdb_plain.specs.States.{master_of}
use Rattle.master_keys.specs.Rewrapping.{Holds, HoldsOne}
use Rattle.princ_keys.specs.declared.keys.KeyItem.{KeyItem}
use Rattle.princ_record.specs.declared.princs.Princ.{Princ}
use Rattle.rekey_work.specs.Works.{IsOpenedBy}

items_open : (master : Key) (items : List KeyItem) (keys : List Key) → AllZip (Holds master) items keys
    → All (HoldsOne master) items
items_open master [] [] h = All-nil (HoldsOne master)
items_open master [] (k ∷ keys) h = absurd h
items_open master (i ∷ items) [] h = absurd h
items_open master (i ∷ items) (k ∷ keys) h =
    All-cons (HoldsOne master) i items (k, h.0) (items_open master items keys h.1)

pub opened_by : (masters : List Master) (p : Princ) (old master : Key) (items : List KeyItem) (keys : List Key)
    → master_of masters p.mkvno ≡ Some old
    → master ≡ old → items ≡ p.keys → AllZip (Holds master) items keys → IsOpenedBy masters p
opened_by masters p old master items keys listed same those h = record {
  master = old;
  listed = listed;
  opens = subst (λ (k : Key). All (HoldsOne k) p.keys) same
      (subst (All (HoldsOne master)) those (items_open master items keys h));
}
