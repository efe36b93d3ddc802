-- Records whose keys were wrapped anew under another master key.
use Rattle.std.proofs.Common.{◌≡◌, ℕ, ◌+◌, ◌-◌, ◌*◌, false, List, [], ◌∷◌, drop}
use Rattle.std.proofs.Common.{take, map, refl, sym, ap, subst, ◌∙◌, arith}
use Rattle.std.specs.List.{AllZip}
use Rattle.std.proofs.lemmas.List.{drop-drop}
use Rattle.kdb_base.specs.Key.{Key}
use Rattle.kdb_base.specs.declared.keys.Etype.{Etype}
use Rattle.kdb_base.specs.declared.keys.Salt.{Salt}
use Rattle.master_keys.specs.Rewrapping.{Holds, IsRewrapped, confounder, with_key, with_keys}
use Rattle.master_keys.specs.Wrapping.{wrapped}
use Rattle.princ_keys.specs.declared.keys.KeyItem.{KeyItem}
use Rattle.princ_record.specs.declared.princs.Princ.{Princ}
use Rattle.plain_keys.specs.declared.items.PlainItem.{PlainItem}
use Rattle.kdb_plain.specs.declared.princs.PlainPrinc.{PlainPrinc}
use Rattle.row_keys.specs.Shows.{ShowsItem, ShowsUnder}
use Rattle.row_keys.specs.Wraps.{confounder_of, wrapped_item, wrapped_items}

abbrev pub key_of : PlainItem → Key
key_of k = k.key

pub keys_held : (master : Key) (items : List KeyItem) (keys : List PlainItem) → AllZip (ShowsItem master) items keys
    → AllZip (Holds master) items (map key_of keys)
keys_held master [] [] h = tt
keys_held master [] (k ∷ keys) h = absurd h
keys_held master (i ∷ items) [] h = absurd h
keys_held master (i ∷ items) (k ∷ keys) h = (h.0.holds, keys_held master items keys h.1)

anew_shows : (old fresh : Key) (random : List ℕ) (place : ℕ) (items : List KeyItem) (plain : List Key)
    (keys : List PlainItem) → AllZip (ShowsItem old) items keys
    → AllZip (Holds fresh) (with_keys fresh random place items plain) (map key_of keys)
    → AllZip (ShowsItem fresh) (with_keys fresh random place items plain) keys
unfolding with_keys with_key
anew_shows old fresh random place [] plain [] h held = tt
anew_shows old fresh random place [] plain (k ∷ keys) h held = absurd h
anew_shows old fresh random place (i ∷ items) plain [] h held = absurd h
anew_shows old fresh random place (i ∷ items) [] (k ∷ keys) h held = absurd held
anew_shows old fresh random place (i ∷ items) (p ∷ plain) (k ∷ keys) h held = (
  record { kvno = h.0.kvno; salt = h.0.salt; holds = held.0 },
  anew_shows old fresh random (place + 1) items plain keys h.1 held.1,
)

pub rewrapped_shows : (old fresh history : Key) (p r : Princ) (q : PlainPrinc) (version : ℕ) (random : List ℕ)
    → ShowsUnder old history p q → IsRewrapped p old version fresh random r
    → AllZip (Holds fresh) r.keys (map key_of q.keys) → ShowsUnder fresh history r (record q { mkvno = version })
rewrapped_shows old fresh history p r q version random f w held =
    let keys : r.keys ≡ with_keys fresh random 0 p.keys w.plain = ap (λ (x : Princ). x.keys) w.is in
    let shown : AllZip (ShowsItem fresh) (with_keys fresh random 0 p.keys w.plain) q.keys =
    anew_shows old fresh random 0 p.keys w.plain q.keys f.keys
    (subst (λ (ks : List KeyItem). AllZip (Holds fresh) ks (map key_of q.keys)) keys held) in
    subst (λ (x : Princ). ShowsUnder fresh history x (record q { mkvno = version })) (sym w.is)
    (record { fields = ap (λ (h : Princ). record h { mkvno = version }) f.fields; keys = shown; old = f.old })

-- ---- the same bytes

item_same : (fresh : Key) (bytes : List ℕ) (i : KeyItem) (k : PlainItem) → i.kvno ≡ k.kvno → i.etype ≡ k.key.etype
    → i.salt ≡ k.salt → with_key fresh bytes i k.key ≡ wrapped_item fresh bytes k
unfolding with_key wrapped_item
item_same fresh bytes i k a b c =
    let made : ℕ → Etype → Salt → KeyItem = λ (kvno : ℕ) (etype : Etype) (salt : Salt).
    record { kvno = kvno; etype = etype; salt = salt; wrapped = wrapped fresh k.key bytes } in
    ap (λ (n : ℕ). made n i.etype i.salt) a ∙ ap (λ (e : Etype). made k.kvno e i.salt) b
    ∙ ap (λ (s : Salt). made k.kvno k.key.etype s) c

bytes_same : (random : List ℕ) (place : ℕ) (k : PlainItem)
    → confounder random place ≡ confounder_of false (drop (16 * place) random) k
unfolding confounder
bytes_same random place k =
    let long : 16 * (place + 1) - 16 * place ≡ 16 = omega arith in
    ap (λ (n : ℕ). take n (drop (16 * place) random)) long

anew_same : (master fresh : Key) (random : List ℕ) (place : ℕ) (items : List KeyItem) (keys : List PlainItem)
    → AllZip (ShowsItem master) items keys
    → with_keys fresh random place items (map key_of keys) ≡ wrapped_items fresh false (drop (16 * place) random) keys
unfolding with_keys wrapped_items
anew_same master fresh random place [] [] h = refl
anew_same master fresh random place [] (k ∷ keys) h = absurd h
anew_same master fresh random place (i ∷ items) [] h = absurd h
anew_same master fresh random place (i ∷ items) (k ∷ keys) h =
    let rest : drop (16 * (place + 1)) random ≡ drop 16 (drop (16 * place) random) =
    ap (λ (n : ℕ). drop n random) (omega arith) ∙ sym (drop-drop 16 (16 * place) random) in
    let first : with_key fresh (confounder random place) i k.key
    ≡ wrapped_item fresh (confounder_of false (drop (16 * place) random) k) k =
    item_same fresh (confounder random place) i k h.0.kvno (sym h.0.holds.of_type) h.0.salt
    ∙ ap (λ (b : List ℕ). wrapped_item fresh b k) (bytes_same random place k) in
    ap (λ (x : KeyItem). x ∷ with_keys fresh random (place + 1) items (map key_of keys)) first
    ∙ ap (λ (xs : List KeyItem). wrapped_item fresh (confounder_of false (drop (16 * place) random) k) k ∷ xs)
    (anew_same master fresh random (place + 1) items keys h.1
    ∙ ap (λ (b : List ℕ). wrapped_items fresh false b keys) rest)

pub with_keys_wraps : (master fresh : Key) (random : List ℕ) (items : List KeyItem) (keys : List PlainItem)
    → AllZip (ShowsItem master) items keys
    → with_keys fresh random 0 items (map key_of keys) ≡ wrapped_items fresh false random keys
with_keys_wraps master fresh random items keys h = anew_same master fresh random 0 items keys h
