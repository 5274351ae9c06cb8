mod Confirming
mod Gaining
mod RefusedRows
mod LratRows
mod OpenRows
mod QuietRows
