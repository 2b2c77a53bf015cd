-- What is printed piece by piece.
use Rattle.std.proofs.Common.{◌≡◌, ℕ, ◌+◌, ◌<◌, List, [], ◌++◌, Option, codes, append_assoc, append-nil, length, take, slice_index_or, sym, ap, subst, ◌∙◌}
use Rattle.std.proofs.KnownBytes.{Appends-trans}
use Rattle.std.proofs.lemmas.List.{flat_map_more, take_more}
use Rattle.std.specs.Io.KnownBytes.{Appends}
use Rattle.std.specs.Fmt.{decimal}
use Rattle.kv_types.specs.Keyspace.{Keyspace}
use Rattle.pmem.specs.Crash.{image_of}
use Rattle.pmem.specs.Device.{State}
use Rattle.model.specs.declared.record.Gap.{Gap}
use Rattle.model.specs.declared.record.Record.{Record}
use Rattle.model.specs.declared.record.Role.TheVariants.{Standby}
use Rattle.model.specs.Group.{Contents}
use Rattle.model.specs.declared.layout.Layout.TheVariants.{Version2}
use Rattle.model.specs.Image.{Image, entries_of_lines}
use Rattle.model.specs.Layout.{version}
use Rattle.wbl_engine.specs.Contents.{IsDurable, Same}
use Rattle.wbl_engine.specs.Promoting.{promoted}
use Rattle.wbl_engine.specs.Restarting.{IsReopened}
use Rattle.wbl_migrate.specs.Migrating.{IsMigratable, IsMigrated}
use Rattle.wbl_migrate.specs.Steps.{Leaves}
use Rattle.images.specs.Told.{newline}
use Rattle.images.specs.Printed.{TellsMigration, TellsPromotion, gap_line, gap_lines, image_text, migrated_text, number_line, promoted_text, role_line}

-- one gap more
pub gaps-more : (gaps : List Gap) (i : ℕ) (gap : Gap) → i < length gaps → gap_lines (take (i + 1) gaps) ≡ gap_lines (take i gaps) ++ gap_line (slice_index_or gaps i gap)
gaps-more gaps i gap within = ap gap_lines (take_more gaps i gap within) ∙ sym (flat_map_more gap_line [] (take i gaps) (slice_index_or gaps i gap))

-- all lines of a record, one after another
pub image-whole : (current : Record) (pair live count told : ℕ) (gaps : List Gap) (z a b c d e f g h p i j k : Option (List ℕ)) → told ≡ version current.layout
    → count ≡ length current.gaps.items → gaps ≡ current.gaps.items → Appends z a (number_line (codes "version") told)
    → Appends a b (number_line (codes "record") current.number) → Appends b c (number_line (codes "position") current.position)
    → Appends c d (number_line (codes "cp") current.cp) → Appends d e (number_line (codes "cd") current.cd)
    → Appends e f (number_line (codes "epoch") current.epoch) → Appends f g (role_line current.role)
    → Appends g h (number_line (codes "floor") current.floor) → Appends h p (number_line (codes "pair") pair)
    → Appends p i (number_line (codes "gaps") count) → Appends i j (gap_lines gaps)
    → Appends j k (number_line (codes "live") live) → Appends z k (image_text current pair live)
image-whole current pair live count told gaps z a b c d e f g h p i j k versioned counted same first number position cp cd epoch role floor paired many each last =
    Appends-trans z a k _ _ (subst (λ (n : ℕ). Appends z a (number_line (codes "version") n)) versioned first)
    (Appends-trans a b k _ _ number
    (Appends-trans b c k _ _ position
    (Appends-trans c d k _ _ cp
    (Appends-trans d e k _ _ cd
    (Appends-trans e f k _ _ epoch
    (Appends-trans f g k _ _ role
    (Appends-trans g h k _ _ floor
    (Appends-trans h p k _ _ paired
    (Appends-trans p i k _ _ (subst (λ (n : ℕ). Appends p i (number_line (codes "gaps") n)) counted many)
    (Appends-trans i j k _ _ (subst (λ (gs : List Gap). Appends i j (gap_lines gs)) same each) (subst (Appends j k) (sym (append-nil (number_line (codes "live") live))) last)))))))))))

-- how many entries an image has that was migrated, and whose device is as long as before
pub tells-migration : {old new : State} {lines entries : ℕ} {before after : Option (List ℕ)}
    → ((r : Record) (s : Keyspace) → IsMigratable old.lines r s (image_of old.words) → Leaves new (IsMigrated old.lines r s))
    → new.lines ≡ old.lines → lines ≡ new.lines → entries ≡ entries_of_lines Version2 lines
    → Appends before after (codes "migrated to version 2, " ++ (decimal entries ++ (codes " entries" ++ newline))) → TellsMigration old new before after
tells-migration {old} {new} {lines} {entries} {before} {after} migrated same counted kept told =
    record {
      migrated = migrated;
      told = subst (λ (n : ℕ). Appends before after (migrated_text n)) (counted ∙ same)
          (subst (λ (n : ℕ). Appends before after (codes "migrated to version 2, " ++ decimal n ++ codes " entries" ++ newline)) kept
          (subst (λ (text : List ℕ). Appends before after (codes "migrated to version 2, " ++ text)) (sym (append_assoc (decimal entries) (codes " entries") newline))
          told));
    }

-- the epoch of a promoted image, whose device is given back
pub tells-promotion : {lines epoch : ℕ} {image : Image} {opened contents : Contents} {device left : State} {before after : Option (List ℕ)}
    → IsReopened lines image Standby opened → Same (promoted opened) contents → left ≡ device → IsDurable device contents
    → epoch ≡ contents.current.epoch → Appends before after (promoted_text epoch) → TellsPromotion lines image left before after
tells-promotion {lines} {epoch} {image} {opened} {contents} {device} {left} {before} {after} reopened promotes given durable is told =
    record {
      opened = opened;
      reopened = reopened;
      contents = contents;
      promotes = promotes;
      durable = subst (λ (d : State). IsDurable d contents) (sym given) durable;
      told = subst (λ (n : ℕ). Appends before after (promoted_text n)) is told;
    }
