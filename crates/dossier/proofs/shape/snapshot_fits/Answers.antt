-- The cells, the match objects and the version are asked one after the other. Where there are at most 32 objects there are no more match objects, so that they
-- are not asked about.
use Rattle.std.proofs.Common.{◌∙◌, sym}
use borrow.Author.Tests.{le-leb}
use Rattle.dossier.proofs.VersionLaws.{cells_are, fits-cells, fits-match, fits_all, match-within}
use Rattle.dossier.proofs.shape.snapshot_fits.Goals as goal
use Rattle.dossier.proofs.shape.snapshot_fits.Goals.{then-cells_fit+then-x-le32, then-cells_fit+else-x-le32, else-cells_fit}

pub returns-then-is_match_small : goal.returns-then-is_match_small
returns-then-is_match_small c u ty y m w b v =
    let cells = c.cells_fit.ensures _ ty.properties y.cells _ w.count b (cells_are _ y _ _ v) v.objects in
    let version = c.fits_by_version.ensures y ty m v in
    elim c.if-cells_fit.branch [
      | then-cells_fit+then-x-le32 z ↦ fits_all _ ty y cells z.if-cells_fit.true (match-within ty y v.objects z.if-x-le32.true) version
      | then-cells_fit+else-x-le32 z ↦
          let few = sym (z.is_match_small.ensures u _ ty.properties _ w v.sets) ∙ sym z.value-is ∙ c.if-is_match_small.true in
          fits_all _ ty y cells z.if-cells_fit.true few version
      | else-cells_fit z ↦ cc
    ]

pub returns-else-is_match_small : goal.returns-else-is_match_small
returns-else-is_match_small c u ty y m w b v =
    elim c.if-cells_fit.branch [
      | then-cells_fit+then-x-le32 z ↦ cc (le-leb _ 32 z.if-x-le32.true)
      | then-cells_fit+else-x-le32 z ↦
          c.if-is_match_small.false
          ∙ fits-match _ ty y (z.is_match_small.ensures u _ ty.properties _ w v.sets) (sym z.value-is ∙ c.if-is_match_small.false)
      | else-cells_fit z ↦
          let cells = c.cells_fit.ensures _ ty.properties y.cells _ w.count b (cells_are _ y _ _ v) v.objects in
          c.if-is_match_small.false ∙ fits-cells _ ty y cells z.if-cells_fit.false
    ]
