use Rattle.coniks_proof.proofs.WireLemmas.{accepted-room, form_same, wire-no_fault, wire_same}
use Rattle.coniks_proof.proofs.laws.wire_forms.Goals as goal

pub returns-clause-one_proof : goal.returns-clause-one_proof
returns-clause-one_proof c = wire_same

pub returns-clause-one_form : goal.returns-clause-one_form
returns-clause-one_form c = form_same

pub returns-clause-no_fault : goal.returns-clause-no_fault
returns-clause-no_fault c = wire-no_fault

pub returns-clause-room : goal.returns-clause-room
returns-clause-room c = accepted-room
