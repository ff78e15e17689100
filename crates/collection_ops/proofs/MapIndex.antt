-- The index of a map's keys while items are put in and taken out.
use Rattle.std.proofs.Common.{◌≡◌, ℕ, List, [], ◌∷◌, ◌++◌, Option, Some, None, option_map, refl, ap, ◌∙◌}
use Rattle.std.specs.Map.{update}
use Rattle.std.specs.Str.{bytes_eq}
use Rattle.lists.specs.Rising as rising
use Rattle.lists.specs.Rising.{IsAbove}
use Rattle.state_model.specs.declared.row.MapItem.{MapItem}
use Rattle.trees.specs.declared.text_index.TextIndex.{TextIndex}
use Rattle.trees.specs.Texts.{leads, IsSame, IsWith, IsWithout, IsLean}
use Rattle.trees.proofs.TextLaws.{text-push, text-remove, text-above, text-again, leads-same, IsLean-same, leads-with, IsLean-with, leads-without, IsLean-without, leads-undone, IsLean-undone}
use Rattle.collection_ops.specs.Bodies.{map_number, key_item, LeadsKeys}
use Rattle.collection_ops.specs.Indexes.{key_text, key_texts, IsKeyIndex}

-- an index leads where this function does, and nothing is left over
pub record LeadsBy (items : List MapItem) (index : TextIndex) (f : List ℕ → Option ℕ) : Type 0 where
  pub same : (q : List ℕ) → leads (key_texts items) index q ≡ f q
  pub lean : IsLean (key_texts items) index

-- where that is to the number of each key's item, it is the index of the items
pub index_by : (items : List MapItem) (index : TextIndex) (f : List ℕ → Option ℕ) → LeadsBy items index f → LeadsKeys items f → IsKeyIndex items index
index_by items index f by leads = record { keys = λ q. by.same q ∙ leads q; lean = by.lean }

module _ (items : List MapItem) (old : TextIndex) (is : IsKeyIndex items old) where
  -- where a key leads whose item is known
  leads_to : (key : List ℕ) (o : Option ℕ) → option_map map_number (key_item items key) ≡ o → leads (key_texts items) old key ≡ o
  leads_to key o at = is.keys key ∙ at

  -- where a key leads that isn't there
  nowhere : (key : List ℕ) → key_item items key ≡ None → leads (key_texts items) old key ≡ None
  nowhere key absent = leads_to key None (ap (option_map map_number) absent)

  -- the index is as it was
  pub kept_index : (new : TextIndex) → IsSame old new → IsKeyIndex items new
  kept_index new same = record {
    keys = λ q. leads-same (key_texts items) (key_texts items) (λ k. refl) old new same q ∙ is.keys q;
    lean = IsLean-same (key_texts items) (key_texts items) (λ k. refl) old new same is.lean;
  }

  -- the items get an item in the place of one with its key
  pub again_index : (x i : MapItem) → rising.find map_number x.number items ≡ Some i → x.key ≡ i.key → LeadsBy (rising.put map_number x items) old (leads (key_texts items) old)
  again_index x i at same =
      let stays = text-again map_number key_text items x i x.number refl at (ap Some same) in record {
        same = leads-same (key_texts items) (key_texts (rising.put map_number x items)) stays old old (record { hashes = λ h. refl; others = λ q. refl });
        lean = IsLean-same (key_texts items) (key_texts (rising.put map_number x items)) stays old old (record { hashes = λ h. refl; others = λ q. refl }) is.lean;
      }

  -- a key that isn't there is put in, of an item behind all others
  pub more_index : (new : TextIndex) (x : MapItem) → IsAbove map_number x.number items → key_item items x.key ≡ None → IsWith old new x.key x.number →
      LeadsBy (items ++ x ∷ []) new (update bytes_eq (leads (key_texts items) old) x.key (Some x.number))
  more_index new x above absent more =
      let texts = key_texts items in
      let now = key_texts (items ++ x ∷ []) in
      let added = λ (k : ℕ). text-push map_number key_text items x k above in
      let none = text-above map_number key_text items x.number above in record {
        same = leads-with texts now old new x.key x.number added none more (nowhere x.key absent);
        lean = IsLean-with texts now old new x.key x.number added none more (nowhere x.key absent) is.lean;
      }

  -- it is taken out again, since there is no memory for the item
  pub undone_index : (between new : TextIndex) (key : List ℕ) (n : ℕ) → IsAbove map_number n items → key_item items key ≡ None → IsWith old between key n → IsWithout between new key n → IsKeyIndex items new
  undone_index between new key n above absent more less =
      let texts = key_texts items in
      let none = text-above map_number key_text items n above in record {
        keys = λ q. leads-undone texts old between new key n none (nowhere key absent) more less is.lean q ∙ is.keys q;
        lean = IsLean-undone texts old between new key n none (nowhere key absent) more less is.lean;
      }

  -- a key is taken out
  pub less_index : (new : TextIndex) (key : List ℕ) (n : ℕ) → option_map map_number (key_item items key) ≡ Some n → IsWithout old new key n →
      LeadsBy (rising.remove map_number n items) new (update bytes_eq (leads (key_texts items) old) key None)
  less_index new key n led less =
      let texts = key_texts items in
      let now = key_texts (rising.remove map_number n items) in
      let gone = λ (k : ℕ). text-remove map_number key_text items n k in record {
        same = leads-without texts now old new key n gone less is.lean (leads_to key (Some n) led);
        lean = IsLean-without texts now old new key n gone less is.lean (leads_to key (Some n) led);
      }
