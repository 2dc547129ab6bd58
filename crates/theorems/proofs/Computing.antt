-- Opens every definition of document 01 but those of the merge program at once, so that closed examples compute: `unfolding computing` stands for all of
-- these names. They are those of `specs/` but for what is about the code (`specs/code`, and its replies), and for the statements that are proved.
use Rattle.model.specs.Order as order
use Rattle.model.specs.Keyed as keyed
use Rattle.model.specs.Sets as sets
use Rattle.model.specs.Sorting as sorting
use Rattle.model.specs.Rule as rule
use Rattle.model.specs.Limits as limits
use Rattle.model.specs.Opening as opening
use Rattle.model.specs.Ways as ways
use Rattle.packed.specs.Parse as parse
use Rattle.packed.specs.Packed as packed
use Rattle.packed.specs.Ascii as ascii
use Rattle.values.specs.Decimal as decimal
use Rattle.values.specs.Calendar as calendar
use Rattle.values.specs.Unicode as unicode
use Rattle.values.specs.Spaces as spaces
use Rattle.values.specs.ValueOrder as value-order
use Rattle.ontology.specs.Table as table
use Rattle.ontology.specs.TableLayout as table-layout
use Rattle.ontology.specs.TableCall as table-call
use Rattle.event.specs.Head as head
use Rattle.event.specs.Event as event
use Rattle.event.specs.EventLayout as event-layout
use Rattle.event.specs.EventQuestions as event-questions
use Rattle.event.specs.Agreement as agreement
use Rattle.event.specs.Value as value
use Rattle.dossier.specs.DossierHead as dossier-head
use Rattle.dossier.specs.DossierBody as dossier-body
use Rattle.dossier.specs.DossierLayout as dossier-layout
use Rattle.dossier.specs.DossierQuestions as dossier-questions
use Rattle.fips180.specs.Fips as fips
use Rattle.hashing.specs.HashText as hash-text
use Rattle.hashing.specs.HashCalls as hash-calls
use Rattle.hashing.specs.ReadHashText as read-hash-text
use Rattle.combining.specs.CheckCall as check-call
use Rattle.combining.specs.CombineCall as combine-call
use Rattle.opening.specs.OpenCall as open-call
use Rattle.ways.specs.ByteWays as byte-ways
use Rattle.batch.specs.Batch as batch
use mathlib.Core.List.{flatten}

unfoldable pub computing : Unit {0}
unfolding order.numbers order.integer_cmp order.integers order.equal order.rising order.reversed order.lex order.lists order.rank_cmp order.ranked order.texts
    order.sets
    keyed.put keyed.merge
    sets.canon sets.union sets.smallest sets.only sets.up_from sets.up_to
    sorting.insert sorting.sorted
    rule.places rule.all_are rule.agreed rule.cell rule.of_version rule.cell_of rule.snapshot rule.rule_at rule.rule rule.join_cell rule.join_cells
    rule.join_snapshots rule.combine rule.size rule.sizes rule.objects
    limits.standard limits.is_permitted limits.fits
    opening.lowest opening.cell_at opening.is_mark opening.held opening.marked opening.or_later opening.conflict opening.column opening.last_of
    opening.merged_set opening.first_of opening.merged_at opening.merged_sets opening.overfull opening.opening
    ways.events ways.buffers ways.event_set ways.next ways.calls ways.limited ways.batch
    parse.times
    packed.groups packed.number packed.more packed.read_groups packed.read_number packed.text packed.read_bytes packed.read_text
    ascii.ascii
    decimal.is_digit decimal.are_digits decimal.numeral_after decimal.numeral decimal.is_natural decimal.digits_before decimal.in_decimal decimal.is_negative
    decimal.magnitude
    calendar.has_form calendar.whole_second calendar.with_fraction calendar.field calendar.is_leap calendar.days_in calendar.is_moment calendar.is_datetime
    calendar.days_of_years calendar.days_of_months calendar.day_number calendar.instant
    unicode.is_scalar unicode.read_continued unicode.read_sequence unicode.read_scalar unicode.are_scalars unicode.is_utf8
    spaces.is_width spaces.is_kind spaces.is_unsigned spaces.is_signed spaces.whole_part spaces.point_part spaces.is_fraction spaces.unscaled
    spaces.is_magnitude
    spaces.is_decimal
    spaces.is_hex_digit spaces.are_hex_digits spaces.is_of_kind spaces.in_space
    value-order.is_ordered value-order.minus value-order.with_sign value-order.value_number value-order.value_order
    table.is_letter table.is_name_byte table.are_name_bytes table.is_name table.is_name_within table.strategy_fits table.all_fit table.can_be_marked
    table.mark_fits table.names_rise table.type_rules table.type_named table.at_place table.name_at
    table-layout.read_flag table-layout.read_decimal table-layout.read_parameters table-layout.read_kind table-layout.read_strategy table-layout.read_property
    table-layout.read_type table-layout.read_table table-layout.table_of table-layout.flag_bytes table-layout.parameter_bytes table-layout.kind_bytes
    table-layout.property_bytes table-layout.type_bytes table-layout.table_bytes
    table-call.reply_to_table table-call.table_call
    event.object_count event.version_of event.choice_of event.type_view event.event_view
    head.are_source_bytes head.is_source head.read_parents head.read_head head.parents_bytes head.head_bytes
    event-layout.read_set event-layout.read_place event-layout.read_sets
    event-layout.read_bits event-layout.narrow event-layout.wide event-layout.read_event event-layout.event_of
    event-layout.set_bytes event-layout.sets_bytes event-layout.presence_bit event-layout.bit_number event-layout.event_bytes
    event-questions.each_place event-questions.set_fits event-questions.match_count event-questions.event_shape event-questions.are_in_space
    event-questions.values_fit event-questions.event_asked
    agreement.match_sets agreement.agree
    value.bytes_before value.part_of value.asked_part value.value_call
    fips.plus fips.complement fips.ROTL fips.Ch fips.Parity fips.Maj fips.f fips.K fips.big_endian fips.zeros fips.padded fips.block fips.word_at fips.H0
    fips.W fips.schedule fips.round fips.rounds fips.sum fips.compressed fips.hash fips.digest fips.sha1_of
    hash-text.object_strings hash-text.separated hash-text.hash_text
    hash-calls.hash_text_asked hash-calls.hash_text_answer hash-calls.hash_answer hash-calls.hash_text_call hash-calls.hash_call
    read-hash-text.before read-hash-text.after read-hash-text.strings read-hash-text.values_of read-hash-text.sets_from read-hash-text.read_hash_text
    dossier-head.read_dossier_head dossier-head.dossier_head_bytes
    dossier-body.apart dossier-body.cells_of dossier-body.are_small dossier-body.read_snapshot dossier-body.read_body dossier-body.differ_bit
    dossier-body.snapshot_bytes dossier-body.body_bytes
    dossier-layout.read_dossier dossier-layout.dossier_of dossier-layout.dossier_bytes
    dossier-questions.each_cell dossier-questions.each_snapshot dossier-questions.is_vacant dossier-questions.is_present dossier-questions.is_lone
    dossier-questions.is_lone_if_single dossier-questions.is_lone_if_extreme dossier-questions.unversioned_snapshot dossier-questions.unversioned_shape
    dossier-questions.holds_version dossier-questions.versioned_snapshot dossier-questions.is_unmarked_match
    dossier-questions.match_fits dossier-questions.match_alike dossier-questions.dossier_shape dossier-questions.snapshot_values
    dossier-questions.dossier_asked dossier-questions.dossier_match dossier-questions.dossiers_agree
    check-call.event_dossier check-call.check_asked check-call.check_answer check-call.check_call
    combine-call.combined combine-call.combine_asked combine-call.combine_answer combine-call.combine_call
    open-call.merged_event open-call.opened_answer open-call.asked_opening open-call.open_answer open-call.open_call
    batch.read_batch batch.batch_of batch.events_asked batch.events_agree batch.agree_with batch.batch_dossier batch.together batch.batch_asked
    batch.batch_given
    batch.have_room batch.batch_answer batch.batch_call
    byte-ways.event_or byte-ways.way_answer
    flatten
computing = tt
