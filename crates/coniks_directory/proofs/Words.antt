-- Names of the standard library, of the crates below and of this crate, re-exported for the proofs.
pub use Rattle.std.proofs.lemmas.Bool.{false_from_ne_true, not-true, or_cases, or_parts, or_right}
pub use Rattle.std.proofs.lemmas.Cmp.{by_ranked, nat_list_cmp_total, ranked}
pub use Rattle.std.proofs.lemmas.List.{append-nil, at_drop_all, at_drop_more, length-map, map-append, nil_from_length, take-append-le, take_all, take_more}
pub use Rattle.std.proofs.lemmas.Map.Iter.{iter_end}
pub use Rattle.std.proofs.lemmas.Map.Text.{is_eq-slice_cmp}
pub use Rattle.std.proofs.lemmas.Map.Views.{All-found, All-turn}
pub use Rattle.std.proofs.lemmas.List.Elements.{All-map}
pub use Rattle.std.proofs.lemmas.Simd.{map-map}
pub use Rattle.std.proofs.lemmas.Option.{get_or_from_slice_get, same_Some, slice_get-get_or, slice_get-map, slice_get_cases, slice_get_read, slice_get_within}
pub use Rattle.std.proofs.lemmas.Slice.Eq.{bytes_eq-Decides}
pub use Rattle.std.specs.BTreeMap.{BTreeMap, IsOrdered, btree_map_len, is_at, values}
pub use Rattle.std.specs.Borrow.{Bor}
pub use Rattle.std.specs.Cmp.Lexicographic.{slice_cmp}
pub use Rattle.std.specs.List.{All, AllByRecursion, filter, find}
unfoldable pub use Rattle.std.specs.List.Sorted.{IsStrictlySortedBy}
pub use Rattle.std.specs.Map.{keys_of, lookup, values_of}
pub use Rattle.std.specs.Map.Iter.{deref}
pub use Rattle.std.specs.Option.{option_map, option_map_or}
pub use Rattle.std.specs.Ordering.{is_eq, nat_cmp}
pub use Rattle.std.specs.Str.{bytes_eq}
pub use Rattle.std.specs.declared.cmp.Ordering.TheVariants.{Less}
pub use Rattle.coniks_proof.specs.Batches.{AreOnce, Fault, MayFollow, Operation, after, bound_by, clashes, fault_from, fault_of, first_fault, fits, index_clash, kind_fault, placed}
pub use Rattle.coniks_proof.specs.Changes.{AllAfter, AreApart, AreInOrder, AreIncreasing, IsBefore, has_index}
unfoldable pub use Rattle.coniks_proof.specs.Changes.{overwritten}
pub use Rattle.coniks_proof.specs.Entries.{Entry, IsIn, backed_by}
pub use Rattle.coniks_proof.specs.Maps.{IsIndex, IsMap, IsNew, SameEntries}
pub use Rattle.coniks_proof.specs.Paths.{EndIs, IsPath}
pub use Rattle.coniks_proof.specs.Preimages.{commitment_preimage, zeros}
pub use Rattle.coniks_proof.specs.Proofs.{Accepts}
pub use Rattle.coniks_proof.specs.Registry.{AreWithin, HaveOwnIndices, IsFree, IsLength, Registered, Registry, commitment_to, entries_of, entry_of, has_name, key_of, overlaid, rebound, root_of}
pub use Rattle.coniks_proof.specs.Tree.{node}
pub use Rattle.coniks_proof.specs.declared.paths.Proof.{Proof}
pub use Rattle.coniks_proof.specs.declared.values.Digest.{Digest}
pub use Rattle.coniks_proof.specs.declared.values.Head.{Head}
pub use Rattle.coniks_proof.specs.declared.values.Nonce.{Nonce}
pub use Rattle.coniks_proof.specs.declared.values.TheConstants.{MAX_KEY, MAX_NAME}
pub use Rattle.coniks_tree.specs.Parts.{AllPlaced, Fits, KeepsNone, Placed, Stands, entry_of_change, node_count}
pub use Rattle.coniks_tree.specs.Paths.{Finds}
pub use Rattle.coniks_tree.specs.Table.{Extends, Numbered, Shows, entry_of_record, registered_at, registered_by}
pub use Rattle.coniks_tree.specs.declared.part.Change.{Change}
pub use Rattle.coniks_tree.specs.declared.part.Part.{Part}
pub use Rattle.coniks_tree.specs.declared.table.Node.{Node}
pub use Rattle.coniks_tree.specs.declared.table.Record.{Record}
pub use Rattle.coniks_tree.specs.declared.table.RecordNo.{RecordNo}
pub use Rattle.coniks_tree.specs.declared.table.Root.{Root}
pub use Rattle.coniks_threads.specs.Lists.{Begins, last_of}
pub use Rattle.coniks_threads.specs.Grown.{IsOldMap, unchanged}
pub use Rattle.coniks_chain.specs.Chain.{Continues, Follows, before_at, auditor_after, epoch_before, link_before}
pub use Rattle.coniks_chain.specs.Entries.{body_bytes}
pub use Rattle.coniks_chain.specs.declared.auditor.AuditorState.{AuditorState}
pub use Rattle.coniks_chain.specs.declared.entry.Body.{Body}
pub use Rattle.coniks_directory.specs.Batches.{IsAccepted, fault_is, op_kind, most_anew, most_nodes, operation_of, operations}
pub use Rattle.coniks_directory.specs.Built.{AddsFew, AreAligned, IsBuilt, IsGrowth, IsSmall, IsUpdateBy}
pub use Rattle.coniks_directory.specs.Chain.{IsChainOf, body_of, head_at, heads_of}
pub use Rattle.coniks_directory.specs.Directories.{HasGoodChain, heads}
pub use Rattle.coniks_directory.specs.History.{AllHaveOwnIndices, AreRising, AreUnder, IsUnder, Shown, last_number, latest_epoch, latest_nonce}
pub use Rattle.coniks_directory.specs.History.{latest_registry, latest_version, nonce_after, numbers_of, root_at, shown_at, version_after}
pub use Rattle.coniks_directory.specs.Holders.{HolderIs, IsBoundAt, IsLatestRoot, ShowsLatest}
pub use Rattle.coniks_directory.specs.Installed.{IsEntered, IsNext, IsSigned, Leaves}
pub use Rattle.coniks_directory.specs.Judged.{AreChangesOf, ArePendingRecords, AreCommitmentsFrom, AreCommitted, AreCommittedTo, IsCommitmentAt, IsPendingRecord, IsJudged, IsJudgedFault, IsJudgedFaultAfter, number_at, committed_by}
pub use Rattle.coniks_directory.specs.Lookups.{IsAcceptedAt, IsFound}
pub use Rattle.coniks_directory.specs.Runs.{AreAccepted, AreAcceptedFrom, Batch, Run, defined, epochs_from, shown_by}
pub use Rattle.coniks_directory.specs.State.{HoldsEpoch, IsEpochAt, IsInstalled, IsStored, Mirrors, ShowsRegistry, State, View, Whole, history_of, last_count, registered_of, shown_of, state_of}
unfoldable pub use Rattle.coniks_directory.specs.State.{registry_at}
pub use Rattle.coniks_directory.specs.Updates.{RotatesTo, Grows, IsUpdate, IsUpdateOf, ComesNext, records_after, registry_after, shown_after, shown_with}
pub use Rattle.coniks_directory.specs.declared.batch.Op.{Op}
pub use Rattle.coniks_directory.specs.declared.epochs.Epoch.{Epoch}
pub use Rattle.coniks_directory.specs.declared.growth.Growth.{Growth}
pub use Rattle.coniks_directory.specs.declared.update.Prepared.{Prepared}
