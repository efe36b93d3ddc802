-- The rows of a database: principals and policies, each in the byte order of its keys, and each key once.
use Rattle.std.proofs.Common.{◌≡◌, ℕ, ◌+◌, ◌<◌, ◌≤◌, List, length, map, get_or}
use Rattle.std.specs.List.{All}
use Rattle.std.specs.declared.cmp.Ordering.TheVariants.{Less, Greater}
use Rattle.kdb_base.specs.Limits.{most_rows}
use Rattle.policy_rules.specs.Rules.{Rules}
use Rattle.princ_record.specs.Policies.{IsPolicy}
use Rattle.princ_record.specs.RowLimits.{IsRow}
use Rattle.princ_record.specs.declared.princs.Princ.{Princ}
use Rattle.tagged_data.specs.KeyOrder.{AreInOrder, key_cmp}

pub record RowLists : Type 0 where
  pub princs : List Princ
  pub policies : List Rules

abbrev pub princ_keys : List Princ → List (List ℕ)
princ_keys princs = map (λ p. p.name) princs

abbrev pub policy_keys : List Rules → List (List ℕ)
policy_keys policies = map (λ p. p.name) policies

-- each key once, in order, each with a spelling, and no more rows than there may be
pub record AreRows (r : RowLists) : Type 0 where
  pub princ_order : AreInOrder (princ_keys r.princs)
  pub policy_order : AreInOrder (policy_keys r.policies)
  pub few : length r.princs + length r.policies ≤ most_rows
  pub princs : All IsRow r.princs
  pub policies : All IsPolicy r.policies

-- ---- places

-- the record at this place has the key
pub record IsAt {X : Type 0} (key_of : X → List ℕ) (xs : List X) (key : List ℕ) (at : ℕ) : Type 0 where
  pub in_range : at < length xs
  pub has_key : (d : X) → key_of (get_or xs at d) ≡ key

-- the key would go to this place: lower keys before it, and higher ones from it on
pub record IsGap {X : Type 0} (key_of : X → List ℕ) (xs : List X) (key : List ℕ) (at : ℕ) : Type 0 where
  pub in_range : at ≤ length xs
  pub lower : (j : ℕ) (d : X) → j < at → key_cmp (key_of (get_or xs j d)) key ≡ Less
  pub higher : (j : ℕ) (d : X) → at ≤ j → j < length xs → key_cmp (key_of (get_or xs j d)) key ≡ Greater
