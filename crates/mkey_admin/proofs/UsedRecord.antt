-- K/M's record with another activation.
use Rattle.std.proofs.Common.{◌≡◌, ℕ, ◌+◌, ◌*◌, ◌^◌, ◌<◌, ◌≤◌, Bool, List, [], ◌∷◌}
use Rattle.std.proofs.Common.{◌++◌, length, Some, sym, ap, subst, ◌∙◌, arith}
use Rattle.std.specs.Prelude.{filter, is_some, nat_lt, option_map}
use Rattle.std.specs.List.{All, AllByRecursion}
use Rattle.std.proofs.lemmas.List.{length-append}
use Rattle.std.proofs.lemmas.List.Elements.{All-filter, All-from_recursion, recursion_from_All}
use Rattle.std.proofs.lemmas.List.Sums.{count_by-le-length, length-filter}
use Rattle.kdb_base.specs.declared.versions.Activation.{Activation}
use Rattle.key_activation.specs.Activations.{with_activation}
use Rattle.mkey_admin.specs.KeptMasters.{kept_used, with_activations}
use Rattle.princ_record.specs.Facts.{IsChain as IsPart, IsChainOr}
use Rattle.princ_record.specs.Princs.{IsPrinc, princ}
use Rattle.princ_record.specs.RowLimits.{IsRow}
use Rattle.princ_record.specs.SizeLaws.{length-princ}
use Rattle.princ_record.specs.Sizes as sizes
use Rattle.princ_record.specs.declared.facts.ChainPart.{ChainPart}
use Rattle.princ_record.specs.declared.princs.Princ.{Princ}
use Rattle.serving_versions.proofs.Ranked.{activation_rising}
use Rattle.tagged_data.specs.Numbers.{IsVersion}
use Rattle.tagged_data.specs.Versions.{IsActivation, length-activations_text}

-- ---- the record with another activation has a spelling

joined : (F : Activation → Type 0) (xs : List Activation) (a : Activation) (ys : List Activation) → AllByRecursion F xs
    → F a → AllByRecursion F ys → AllByRecursion F (xs ++ a ∷ ys)
joined F [] a ys h own g = (own, g)
joined F (x ∷ xs) a ys h own g = (h.0, joined F xs a ys h.1 own g)

module _ (version secs : ℕ) (list : List Activation) where
  abbrev low : Activation → Bool
  low a = nat_lt a.version version

  abbrev high : Activation → Bool
  high a = nat_lt version a.version

  used_each : IsActivation (record { version = version; secs = secs }) → All IsActivation list
      → All IsActivation (with_activation version secs list)
  unfolding with_activation
  used_each is all =
      All-from_recursion IsActivation (filter low list ++ record { version = version; secs = secs } ∷ filter high list)
      (joined IsActivation (filter low list) (record { version = version; secs = secs }) (filter high list)
      (recursion_from_All IsActivation (filter low list) (All-filter low IsActivation list all)) is
      (recursion_from_All IsActivation (filter high list) (All-filter high IsActivation list all)))

  used_few : length (with_activation version secs list) ≤ 2 * length list + 1
  unfolding with_activation
  used_few =
      omega (
        arith,
        length-append (filter low list) (record { version = version; secs = secs } ∷ filter high list),
        length-filter low list,
        count_by-le-length low list,
        length-filter high list,
        count_by-le-length high list,
      )

in_row : (p : Princ) (part : ChainPart) → p.chain ≡ Some part → 6 * length part.activations ≤ length (princ p)
in_row p part e = let chain : sizes.chain_len p.chain ≡ sizes.chain_len (Some part) =
    ap sizes.chain_len e in omega (arith, length-princ p, chain)

pub used_fits : (version secs : ℕ) (p : Princ) (part : ChainPart) → IsRow p → p.chain ≡ Some part → IsVersion version
    → secs < 2 ^ 32 → IsPrinc (kept_used (with_activation version secs part.activations) p)
used_fits version secs p part row e version_is secs_is =
    let f = row.fits in
    let used = with_activation version secs part.activations in
    let old : IsPart part = subst IsChainOr e f.facts.chain in
    let made : IsPart (with_activations used part) = record {
      activations = record {
        each = used_each version secs part.activations
            (record { version = version_is; secs = secs_is }) old.activations.each;
        rising = activation_rising version secs part.activations old.activations.rising;
      };
      activations_short =
          let short = row.short in
          omega (arith, in_row p part e, used_few version secs part.activations, length-activations_text used);
      aux = old.aux;
      aux_short = old.aux_short;
    } in
    let same : option_map (with_activations used) p.chain ≡ Some (with_activations used part) =
    ap (option_map (with_activations used)) e in
    record {
      name = f.name;
      attributes = f.attributes;
      attributes_short = f.attributes_short;
      lives = f.lives;
      facts = record {
        pw_changed = f.facts.pw_changed;
        modified = f.facts.modified;
        modifier = f.facts.modifier;
        mkvno = f.facts.mkvno;
        chain_there = ap is_some same ∙ sym (ap is_some e) ∙ f.facts.chain_there;
        chain = subst IsChainOr (sym same) made;
        strings = f.facts.strings;
        no_strings = f.facts.no_strings;
      };
      keys = f.keys;
      masters = f.masters;
      policy = f.policy;
      old = f.old;
    }
