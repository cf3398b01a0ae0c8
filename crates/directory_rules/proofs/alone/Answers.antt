-- An entry that shows no file, or whose name was not marked, stands apart from the later ones. Assumes nothing.
use mathlib.Core.Path.{sym, ap, ◌∙◌}
use Rattle.words.proofs.BoolLaws.{falsum}
use Rattle.sectors.specs.Sectors.{sec}
use Rattle.counts.specs.Stamps.{table_in}
use Rattle.directory.specs.Directory.{entries_of, gone}
use Rattle.directory.proofs.ApartLaws.{gone-apart}
use Rattle.directory_rules.proofs.Marks.{known-gone, known_next, new_apart, marking-of}
use Rattle.directory_rules.proofs.alone.Goals as goal
use Rattle.directory_rules.proofs.alone.Goals.{then-is_gone, else-is_gone}

pub returns-then-mark_name : goal.returns-then-mark_name
returns-then-mark_name c =
    let a = c.args in
    let tp = table_in a.card.geo a.v (sec a.card.bytes.now) in
    let tc = table_in a.card.geo a.w (sec a.card.bytes.now) in
    let es = entries_of a.card.geo (sec a.card.bytes.now) in
    let e = c.is_gone.ensures ∙ ap (gone tp tc) c.entry-p.ensures.bytes in
    let known = c.requires.1.1 in
    elim c.if-is_gone.branch [
      | then-is_gone w ↦ (c.if-mark_name.true ∙ gone-apart tp tc _ _ _ e w.if-is_gone.true, rw w.marks-is (known-gone tp tc es _ _ e w.if-is_gone.true known))
      | else-is_gone w ↦
          let m = marking-of w.mark_name.ensures c.entry-p.ensures.bytes in
          (c.if-mark_name.true ∙ new_apart tp tc es _ _ _ m (sym w.value-is ∙ c.if-mark_name.true) known, rw w.marks-is (known_next tp tc es _ _ _ m known))
    ]

pub returns-else-mark_name : goal.returns-else-mark_name
returns-else-mark_name c =
    let a = c.args in
    let tp = table_in a.card.geo a.v (sec a.card.bytes.now) in
    let tc = table_in a.card.geo a.w (sec a.card.bytes.now) in
    elim c.if-is_gone.branch [
      | then-is_gone w ↦ falsum (sym c.if-mark_name.false ∙ w.value-is ∙ w.if-is_gone.true)
      | else-is_gone w ↦
          let m = marking-of w.mark_name.ensures c.entry-p.ensures.bytes in
          (c.apart_from.ensures, rw w.marks-is (known_next tp tc (entries_of a.card.geo (sec a.card.bytes.now)) _ _ _ m c.requires.1.1))
    ]
